-- Statements and lists that a test finds to be the same.
use Rattle.std.specs.Prelude.{◌≡◌, ℕ, zero, suc, ◌||◌, ◌<◌, true, List, [], ◌∷◌, length, map, get_or}
use Rattle.std.specs.List.{list_all, list_any}
use Rattle.std.proofs.Common.{sym, ◌∙◌, ap, arith}
use Rattle.std.proofs.lemmas.Bool.{or_right}
use Rattle.mm_lex.specs.Alphabet.{Name, name_eq, has_name}
use Rattle.mm_lex.specs.Words.{spaced, words_of, is_word}
use Rattle.mm_lex.proofs.WordsLemmas.{words_of-spaced}

pub same-words : (xs ys : List Name) → list_all is_word xs ≡ true → list_all is_word ys ≡ true → spaced xs ≡ spaced ys → xs ≡ ys
same-words xs ys p q e = sym (words_of-spaced xs p) ∙ (ap words_of e ∙ words_of-spaced ys q)

-- ---- a name among others

pub among-here : {A : Type 0} (f : A → Name) (xs : List A) (name : Name) (n : ℕ) (d : A) → n < length xs → name_eq name (f (get_or xs n d)) ≡ true → has_name name (map f xs) ≡ true
among-here f [] name n d less here = absurd (omega (arith, less))
among-here f (x ∷ xs) name zero d less here = ap (λ b. b || list_any (name_eq name) (map f xs)) here
among-here f (x ∷ xs) name (suc n) d less here = or_right (name_eq name (f x)) (has_name name (map f xs)) (among-here f xs name n d (omega (arith, less)) here)

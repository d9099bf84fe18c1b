-- The fronts of lists of words.
use Rattle.std.proofs.Common.{◌≡◌, ◌≢◌, ◌∙◌, ℕ, zero, suc, true, List, [], ◌∷◌, ◌++◌, length, take, refl, sym, ap, append_assoc}
use Rattle.std.specs.List.{list_all}
use Rattle.std.specs.Prelude.{Result, Ok, Err, OnOk, IfOk, IfSome, MatchOption, Option, Some, None}
use Rattle.std.proofs.lemmas.List.{append-nil}
use Rattle.mm_lex.specs.Alphabet.{Name, is_visible}
use Rattle.mm_lex.specs.Words.{is_word}
use Rattle.std.proofs.lemmas.Bool.{and_from, and_parts}
use Rattle.proof_code.specs.Writes.{Writes}
use Rattle.proof_code.specs.declared.item.Item.{Item}
use Rattle.explanation.specs.Fronts.{WritesFront, before_spot, first_bytes}

visible_take : (n : ℕ) (bytes : List ℕ) → list_all is_visible bytes ≡ true → list_all is_visible (take n bytes) ≡ true
visible_take zero bytes h = refl
visible_take (suc n) [] h = refl
visible_take (suc n) (b ∷ bytes) h =
    let parts : (is_visible b ≡ true) × (list_all is_visible bytes ≡ true) = and_parts (is_visible b) (list_all is_visible bytes) h in
    and_from (is_visible b) (list_all is_visible (take n bytes)) parts.0 (visible_take n bytes parts.1)

-- the first bytes of a word are a word
pub word_take : (n : ℕ) (word : Name) → n ≢ 0 → is_word word ≡ true → is_word (take n word) ≡ true
word_take zero word some h = absurd (some refl)
word_take (suc n) [] some h = h
word_take (suc n) (b ∷ bytes) some h = visible_take (suc n) (b ∷ bytes) h

pub first_none : (word : Name) (n : ℕ) → n ≡ 0 → first_bytes word n ≡ []
first_none word n none = ap (first_bytes word) none

pub first_some : (word : Name) (n : ℕ) → n ≢ 0 → first_bytes word n ≡ take n word ∷ []
first_some word zero some = absurd (some refl)
first_some word (suc n) some = refl

pub first_cut : (word cut : Name) (n : ℕ) → n ≢ 0 → cut ≡ take n word → first_bytes word n ≡ cut ∷ []
first_cut word cut n some is = first_some word n some ∙ ap (λ w. w ∷ []) (sym is)

pub pushed-first : {T E : Type 0} (r : Result T E) (old new : List Name) (word cut : Name) (n : ℕ) → first_bytes word n ≡ cut ∷ [] → OnOk r (new ≡ old ++ cut ∷ []) → OnOk r (new ≡ old ++ first_bytes word n)
pushed-first (Ok v) old new word cut n is ok = ok ∙ ap (λ x. old ++ x) (sym is)
pushed-first (Err e) old new word cut n is ok = tt

-- ---- one word after the other

module _ (tokens rest words whole : List Name) (word : Name) (left byte : ℕ) (same : tokens ++ before_spot rest left byte ≡ whole) where
  pub front-none : rest ≡ [] → tokens ≡ whole
  front-none none = sym (ap (λ r. tokens ++ before_spot r left byte) none ∙ append-nil tokens) ∙ same

  pub front-here : rest ≡ word ∷ words → left ≡ 0 → tokens ++ first_bytes word byte ≡ whole
  front-here some here = sym (ap (λ r. tokens ++ before_spot r left byte) some ∙ ap (λ n. tokens ++ before_spot (word ∷ words) n byte) here) ∙ same

  pub front-on : (next : ℕ) → rest ≡ word ∷ words → left ≡ suc next → (tokens ++ word ∷ []) ++ before_spot words next byte ≡ whole
  front-on next some more =
      append_assoc tokens (word ∷ []) (before_spot words next byte)
      ∙ (sym (ap (λ r. tokens ++ before_spot r left byte) some ∙ ap (λ n. tokens ++ before_spot (word ∷ words) n byte) more) ∙ same)

-- the whole list is a front
pub front_whole : (words : List Name) (byte : ℕ) → before_spot words (length words) byte ≡ words
front_whole [] byte = refl
front_whole (word ∷ words) byte = ap (λ r. word ∷ r) (front_whole words byte)

-- items that the tokens before a spot write are written by a front
pub front-if : {E : Type 0} (r : Result (Option (List Item)) E) (tokens mandatory : List Name) (token byte : ℕ)
    → IfOk r (λ found. MatchOption found ((other : List Item) → ¬ Writes (before_spot tokens token byte) mandatory other) (λ items. Writes (before_spot tokens token byte) mandatory items))
    → IfOk r (λ found. IfSome found (WritesFront tokens mandatory))
front-if (Ok (Some items)) tokens mandatory token byte h = record { token = token; byte = byte; written = h }
front-if (Ok None) tokens mandatory token byte h = tt
front-if (Err e) tokens mandatory token byte h = tt

-- Two parts of a text that is cut at a place read as the statements of the whole text.
use Rattle.std.specs.Prelude.{◌≡◌, ℕ, true, ◌||◌, List, [], ◌∷◌, ◌++◌, take, drop, Option, Some, None, IfSome, Vec}
use Rattle.std.specs.declared.alloc.Global.{Global}
use Rattle.std.proofs.Common.{refl, sym, ◌∙◌, ap, subst}
use Rattle.std.proofs.Math.Bool.{or-true}
use Rattle.std.proofs.lemmas.List.{take-append-drop}
use Rattle.mm_lex.specs.Alphabet.{is_white, is_empty_or_starts_white}
use Rattle.mm_read.specs.declared.stmt.Stmt.{Stmt}
use Rattle.mm_read.specs.Statements.{Database}
use Rattle.mm_read.specs.Reads.{Reads}
use Rattle.mm_read.specs.Laws.{joins_no_words}
use Rattle.mm_read.proofs.JoinedReads.{joined_reads}
use Rattle.read_pool.specs.Cut.{IsCut}
use Rattle.read_pool.specs.Concatenation.{IsConcatenation}

-- no word continues into a text that starts white
white_joins : (text other : List ℕ) → is_empty_or_starts_white other ≡ true → joins_no_words text other ≡ true
white_joins [] other white = refl
white_joins (b ∷ []) other white = ap (λ t. is_white b || t) white ∙ or-true (is_white b)
white_joins (b ∷ c ∷ text) other white = white_joins (c ∷ text) other white

module _ (text front back : List ℕ) (at : ℕ) (cut : IsCut text at) (begins : front ≡ take at text) (ends : back ≡ drop at text) where
  -- the two parts together are the text
  whole : front ++ back ≡ text
  whole = ap (λ r. r ++ back) begins ∙ (ap (λ r. take at text ++ r) ends ∙ take-append-drop at text)

  -- no word continues from the first part into the second
  no_word_joined : joins_no_words front back ≡ true
  no_word_joined = white_joins front back (ap is_empty_or_starts_white ends ∙ cut.1)

  module _ (first second : Option (Vec Stmt Global)) (one : IfSome first (λ S. Reads front S.items)) (other : IfSome second (λ S. Reads back S.items)) where
    -- if both parts can be read, the text reads as the statements of the first and then those of
    -- the second
    both_read : (S : Database) → IsConcatenation first second S → Reads text S
    both_read S are = by first second one other are
      where
        by : (first second : Option (Vec Stmt Global)) → IfSome first (λ S. Reads front S.items) → IfSome second (λ S. Reads back S.items) → IsConcatenation first second S → Reads text S
        by (Some v) (Some w) one other are = subst (Reads text) (sym are) (subst (λ t. Reads t (v.items ++ w.items)) whole (joined_reads front back v.items w.items one other no_word_joined))
        by (Some v) None one other are = absurd are
        by None second one other are = absurd are

    -- .. and so does the result, if there is one
    pub parts_read : (r : Option (Vec Stmt Global)) → IfSome r (λ S. IsConcatenation first second S.items) → IfSome r (λ S. Reads text S.items)
    parts_read (Some v) are = both_read v.items are
    parts_read None are = tt

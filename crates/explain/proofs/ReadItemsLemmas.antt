-- From the answer of a reader of proof code to the items that the tokens write.
use Rattle.explain.proofs.Words.{◌≡◌, ◌⊎◌, ◌↔◌, true, IsTrue, List, Option, Some, None, Result, Ok, Err, IfOk, MatchOption, subst, inl, inr, Name, Item, CodeFault, Unfinished, Malformed, Writes, WritesFinishedCompressed, IsMalformed, is_compressed, is_unfinished, one_answer, malformed-none}

abbrev Found : List Name → List Name → Option (List Item) → Type 0
Found tokens mandatory found = MatchOption found ((other : List Item) → ¬ Writes tokens mandatory other) (λ items. Writes tokens mandatory items)

abbrev Written : Result (List Item) CodeFault → Option (List Item) → Type 0
Written r found = MatchOption found ((r ≡ Err Unfinished) ⊎ (r ≡ Err Malformed)) (λ items. r ≡ Ok items)

module _ {E : Type 0} (tokens mandatory : List Name) (r : Result (List Item) CodeFault) (result : Result (Option (List Item)) E) (w : IfOk result (λ found. Written r found))
    (unfinished : (r ≡ Err Unfinished) ↔ IsTrue (is_unfinished tokens)) where
  pub packed-found : is_compressed tokens ≡ true → IfOk r (λ items. WritesFinishedCompressed tokens mandatory items) → (r ≡ Err Malformed) ↔ IsMalformed tokens (WritesFinishedCompressed tokens mandatory)
      → IfOk result (λ found. Found tokens mandatory found)
  packed-found compressed items malformed = by result w
    where
      by : (result : Result (Option (List Item)) E) → IfOk result (λ found. Written r found) → IfOk result (λ found. Found tokens mandatory found)
      by (Ok (Some items')) e = inl (compressed, subst (λ q. IfOk q (λ is. WritesFinishedCompressed tokens mandatory is)) e items)
      by (Ok None) e = elim e [ inl u ↦ (λ other w. (one_answer tokens mandatory).finished other w (unfinished.0 u)) | inr m ↦ malformed-none tokens mandatory compressed (malformed.0 m) ]
      by (Err x) e = tt

-- The names of labels, put into a set one by one.
use Rattle.proof_code.proofs.Words.{◌≡◌, true, List, [], ◌∷◌, ◌++◌, bytes_eq, cond, sym, ◌∙◌, ap, append_assoc, list_any-append, same_from_decides, Decides-like, bytes_eq-Decides, Name, name_eq, has_name, BTreeSet, contains, nat_cmp, is_eq, slice_cmp, is_eq-slice_cmp, tried_first, IsLabelSet}
use Rattle.std.specs.Borrow.{Bor}

-- the set has the names of the labels before those that are left
pub record NamesTo (labels left : List Name) (names : BTreeSet (Bor Name)) : Type 0 where
  pub done : List Name
  pub whole : labels ≡ done ++ left
  pub named : IsLabelSet names done

bytes_eq-sym : (a b : Name) → bytes_eq a b ≡ bytes_eq b a
bytes_eq-sym a b = same_from_decides (bytes_eq a b) (bytes_eq b a) (bytes_eq-Decides a b) (Decides-like (bytes_eq b a) sym sym (bytes_eq-Decides b a))

-- two names compare as equal exactly if their bytes are the same
equal_names : (a b : Name) → is_eq (slice_cmp nat_cmp a b) ≡ bytes_eq b a
equal_names a b = is_eq-slice_cmp a b ∙ bytes_eq-sym a b

-- one more label is put into the set
pub names_more : (labels left rest : List Name) (label : Bor Name) (old new : BTreeSet (Bor Name)) → NamesTo labels left old → left ≡ label.now ∷ rest
    → ((q : Bor Name) → contains (λ a b. slice_cmp nat_cmp a.now b.now) new q ≡ cond (is_eq (slice_cmp nat_cmp label.now q.now)) true (contains (λ a b. slice_cmp nat_cmp a.now b.now) old q)) → NamesTo labels rest new
names_more labels left rest label old new m first updates = record {
  done = m.done ++ label.now ∷ [];
  whole = m.whole ∙ (ap (λ ws. m.done ++ ws) first ∙ sym (append_assoc m.done (label.now ∷ []) rest));
  named = λ q. updates q ∙ (ap (λ t. cond (is_eq (slice_cmp nat_cmp label.now q.now)) true t) (m.named q) ∙ (ap (λ t. cond t true (has_name q.now m.done)) (equal_names label.now q.now)
      ∙ (tried_first (bytes_eq q.now label.now) (has_name q.now m.done) ∙ sym (list_any-append (name_eq q.now) m.done (label.now ∷ [])))));
}

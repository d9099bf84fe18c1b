-- The positions of labels, found one by one.
use Rattle.frame.proofs.Words.{sym, ◌∙◌, inl, inr, arith, length-append, Bor, ◌≡◌, ℕ, ◌<◌, List, [], ◌∷◌, ◌++◌, length, map, get_or, Option, None, cases_lt, map_push, get_or_at, get_or_append_left, Name, Database, IsPosition, ArePositions}

pub get-front : {A : Type 0} (xs ys : List A) (k : ℕ) (d : A) → k < length xs → get_or (xs ++ ys) k d ≡ get_or xs k d
get-front xs ys k d h = get_or_append_left xs ys d k h

pub get-last : {A : Type 0} (xs : List A) (x : A) (k : ℕ) (d : A) → k ≡ length xs → get_or (xs ++ x ∷ []) k d ≡ x
get-last xs x k d e = get_or_at xs x [] d k (sym e)

-- the position of the next label is appended
pub positions-end : (S : Database) (ls : List Name) (label : Name) (ps : List (Option ℕ)) (p : Option ℕ) → ArePositions S ls ps → IsPosition S label p → ArePositions S (ls ++ label ∷ []) (ps ++ p ∷ [])
positions-end S ls label ps p a is = record {
  count = omega (arith, length-append ps (p ∷ []), length-append ls (label ∷ []), a.count);
  each = λ k h. elim (cases_lt k (length ls)) [
    | inl lt ↦ rw (get-front ls (label ∷ []) k [] lt, get-front ps (p ∷ []) k None (omega (arith, lt, a.count))) (a.each k lt)
    | inr le ↦
        let same : k ≡ length ls = omega (arith, h, le, length-append ls (label ∷ [])) in
        rw (get-last ls label k [] same, get-last ps p k None (same ∙ sym a.count)) is
  ];
}

pub positions-more : (S : Database) (labels : List (Bor Name)) (label : Bor Name) (ps ps' : List (Option ℕ)) (p : Option ℕ) → ArePositions S (map (λ l. l.now) labels) ps
    → ps' ≡ ps ++ p ∷ [] → IsPosition S label.now p → ArePositions S (map (λ l. l.now) (labels ++ label ∷ [])) ps'
positions-more S labels label ps ps' p are grown is = rw (map_push (λ l. l.now) labels label, grown) (positions-end S (map (λ l. l.now) labels) label.now ps p are is)

-- Statements in shared buffers: appending changes no statement, and the buffers can be truncated
-- where a statement begins.
use Rattle.entries.proofs.Words.{◌≡◌, ℕ, zero, suc, ◌<◌, ◌≤◌, List, [], ◌∷◌, ◌++◌, length, take, slice_get, slice_range, Some, refl, ◌⊎◌, ◌∙◌, ap, arith, inl, inr, same_Some, StatementRecord, BufferPart, Extends, end_by, groups_by, numbers_by, spans_by, entries_of, AreKept}
use Rattle.entries.proofs.SpanLemmas.{range-extends, extends-length}

pub get-push : {A : Type 0} (xs : List A) (x y : A) (i : ℕ) → slice_get (xs ++ x ∷ []) i ≡ Some y → ((i < length xs) × (slice_get xs i ≡ Some y)) ⊎ ((i ≡ length xs) × (x ≡ y))
get-push [] x y zero e = inr (refl, same_Some _ _ e)
get-push [] x y (suc i) e = absurd (cc)
get-push (z ∷ xs) x y zero e = inl (omega arith, e)
get-push (z ∷ xs) x y (suc i) e = elim (get-push xs x y i e) [
  | inl p ↦ inl (omega (arith, p.0), p.1)
  | inr p ↦ inr (ap suc p.0, p.1)
]

pub take-get : {A : Type 0} (n i : ℕ) (xs : List A) (x : A) → slice_get (take n xs) i ≡ Some x → (i < n) × (slice_get xs i ≡ Some x)
take-get zero i xs x e = absurd (cc)
take-get (suc n) i [] x e = absurd (cc)
take-get (suc n) zero (y ∷ xs) x e = (omega arith, e)
take-get (suc n) (suc i) (y ∷ xs) x e = let r = take-get n i xs x e in (omega (arith, r.0), r.1)

-- ---- the statements in front of the record s, whose numbers and groups begin where the shorter buffers a and g end

module _ (a b : List ℕ) (g h : List BufferPart) (s : StatementRecord) (ts : List StatementRecord) (more : Extends a b) (more_groups : Extends g h) (from : s.from ≡ length a) (groups : s.groups_from ≡ length g) where
  next-end : (rs : List StatementRecord) → end_by b (slice_get (rs ++ s ∷ ts) 0) ≡ end_by a (slice_get rs 0)
  next-end [] = from
  next-end (r ∷ rs) = refl

  next-groups : (rs : List StatementRecord) → groups_by h (slice_get (rs ++ s ∷ ts) 0) ≡ groups_by g (slice_get rs 0)
  next-groups [] = groups
  next-groups (r ∷ rs) = refl

  run-same : (q : StatementRecord) (rs : List StatementRecord) → q.from ≤ end_by a (slice_get rs 0) → end_by a (slice_get rs 0) ≤ length a → numbers_by b q (slice_get (rs ++ s ∷ ts) 0) ≡ numbers_by a q (slice_get rs 0)
  run-same q rs le in_a = ap (slice_range b q.from) (next-end rs) ∙ range-extends a b q.from (end_by a (slice_get rs 0)) more le in_a

  spans-same : (q : StatementRecord) (rs : List StatementRecord) → q.groups_from ≤ groups_by g (slice_get rs 0) → groups_by g (slice_get rs 0) ≤ length g → spans_by h q (slice_get (rs ++ s ∷ ts) 0) ≡ spans_by g q (slice_get rs 0)
  spans-same q rs le in_g = ap (slice_range h q.groups_from) (next-groups rs) ∙ range-extends g h q.groups_from (groups_by g (slice_get rs 0)) more_groups le in_g

  -- the longer buffers have the same statements
  pub entries-before : (rs : List StatementRecord) → AreKept a g rs → entries_of b h (rs ++ s ∷ ts) ≡ entries_of a g rs ++ entries_of b h (s ∷ ts)
  entries-before [] k = refl
  entries-before (q ∷ rs) k =
      let p = k.0.placed in let w = k.0.grouped in
      let e = run-same q rs p.from p.end in let f = spans-same q rs (omega arith) w.end in
      let es = entries-before rs k.1 in cc

  -- the records fit the longer buffers, too
  pub kept-before : (rs : List StatementRecord) → AreKept a g rs → AreKept b h (s ∷ ts) → AreKept b h (rs ++ s ∷ ts)
  kept-before [] k last = last
  kept-before (q ∷ rs) k last =
      let p = k.0.placed in let w = k.0.grouped in
      let e = run-same q rs p.from p.end in let f = spans-same q rs (omega arith) w.end in
      let n = next-end rs in let m = next-groups rs in
      let l = extends-length a b more in let j = extends-length g h more_groups in (
        record {
          placed = record { from = omega arith; end = omega arith; whole = rw e p.whole };
          grouped = record { count = rw (e, m) w.count; end = omega arith; spans = rw (e, f) w.spans };
        },
        kept-before rs k.1 last,
      )

  -- records that fit the longer buffers fit the shorter ones
  pub kept-cut : (rs : List StatementRecord) → AreKept b h (rs ++ s ∷ ts) → AreKept a g rs
  kept-cut [] k = tt
  kept-cut (q ∷ rs) k =
      let p = k.0.placed in let w = k.0.grouped in
      let ks = kept-cut rs k.1 in
      let n = next-end rs in let m = next-groups rs in
      let in_a = end-in rs ks in
      let e = run-same q rs (omega arith) in_a.0 in let f = spans-same q rs (omega arith) in_a.1 in (
        record {
          placed = record { from = omega arith; end = in_a.0; whole = rw (← e) p.whole };
          grouped = record { count = rw (← e, ← m) w.count; end = in_a.1; spans = rw (← e, ← f) w.spans };
        },
        ks,
      )
    where
      end-in : (us : List StatementRecord) → AreKept a g us → (end_by a (slice_get us 0) ≤ length a) × (groups_by g (slice_get us 0) ≤ length g)
      end-in [] c = (omega arith, omega arith)
      end-in (u ∷ us) c = let x = c.0.placed in let y = c.0.grouped in (omega arith, omega arith)

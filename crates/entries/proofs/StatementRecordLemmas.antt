-- The stored form of the statement at an index.
use Rattle.entries.proofs.Words.{◌≡◌, ℕ, zero, suc, ◌+◌, Bool, true, false, List, [], ◌∷◌, ◌++◌, length, slice_get, slice_range, Option, Some, refl, ◌∙◌, ap, sym, arith, Bor, same_Some, Layout, StatementRecord, BufferPart, Entry, layout_in, groups_by, numbers_by, spans_by, entry_of, entries_of, IsKept, AreKept, IsOrdered, IsStored}

-- an element keeps its index if the list is followed by others
pub get-more : {A : Type 0} (xs more : List A) (k : ℕ) (x : A) → slice_get xs k ≡ Some x → slice_get (xs ++ more) k ≡ Some x
get-more [] more k x e = absurd (cc)
get-more (z ∷ xs) more zero x e = e
get-more (z ∷ xs) more (suc k) x e = get-more xs more k x e

pub get-last : {A : Type 0} (xs : List A) (x : A) → slice_get (xs ++ x ∷ []) (length xs) ≡ Some x
get-last [] x = refl
get-last (z ∷ xs) x = get-last xs x

-- there are as many statements as records
pub within : (numbers : List ℕ) (groups : List BufferPart) (rs : List StatementRecord) → length (entries_of numbers groups rs) ≡ length rs
within numbers groups [] = refl
within numbers groups (r ∷ rs) = ap suc (within numbers groups rs)

-- ---- the statement at an index

pub kept-at : (numbers : List ℕ) (groups : List BufferPart) (r : StatementRecord) (rs : List StatementRecord) (i : ℕ) → AreKept numbers groups rs → slice_get rs i ≡ Some r → IsKept numbers groups r (slice_get rs (suc i))
kept-at numbers groups r [] i k e = absurd (cc)
kept-at numbers groups r (q ∷ rs) zero k e = rw (← same_Some q r e) k.0
kept-at numbers groups r (q ∷ rs) (suc i) k e = kept-at numbers groups r rs i k.1 e

-- the record r fits the buffers, and the entry found is its statement
pub record IsAt (numbers : List ℕ) (groups : List BufferPart) (r : StatementRecord) (next : Option StatementRecord) (found : Option Entry) : Type 0 where
  pub kept : IsKept numbers groups r next
  pub entry : found ≡ Some (entry_of r (numbers_by numbers r next) (spans_by groups r next))

pub at-index : (numbers : List ℕ) (groups : List BufferPart) (rs : List StatementRecord) (es : List Entry) (i : ℕ) (r : StatementRecord) → AreKept numbers groups rs → entries_of numbers groups rs ≡ es
    → {qs : List StatementRecord} → qs ≡ rs → slice_get qs i ≡ Some r → IsAt numbers groups r (slice_get rs (i + 1)) (slice_get es i)
at-index numbers groups rs es i r kept view same here =
    let n : suc i ≡ i + 1 = omega arith in
    rw (← view, ← n) (by rs i kept (rw (← same) here))
  where
    by : (qs : List StatementRecord) (j : ℕ) → AreKept numbers groups qs → slice_get qs j ≡ Some r → IsAt numbers groups r (slice_get qs (suc j)) (slice_get (entries_of numbers groups qs) j)
    by [] j k e = absurd (cc)
    by (q ∷ qs) zero k e = rw (← same_Some q r e) (record { kept = k.0; entry = refl })
    by (q ∷ qs) (suc j) k e = by qs j k.1 e

-- the parts follow one another
ordered : (t : Bool) (run : List ℕ) → IsOrdered (layout_in t run)
ordered true run = record { typecodes = omega arith; numbered_hypotheses = omega arith; symbols = omega arith; hypotheses = omega arith; grouped_variables = omega arith }
ordered false run = record { typecodes = omega arith; numbered_hypotheses = omega arith; symbols = omega arith; hypotheses = omega arith; grouped_variables = omega arith }

-- the parts read are those of the entry
module _ (numbers : List ℕ) (groups : List BufferPart) (r : StatementRecord) (next : Option StatementRecord) (found : Option Entry) (run : Bor (List ℕ)) (at : Layout)
    (a : IsAt numbers groups r next found) (same : run.now ≡ numbers_by numbers r next) (laid : at ≡ layout_in r.has_parts run.now) where
  layout : layout_in r.has_parts (numbers_by numbers r next) ≡ at
  layout = sym (laid ∙ ap (layout_in r.has_parts) same)

  pub groups-count : r.groups_from + at.group_count ≡ groups_by groups next
  groups-count = ap (λ (x : Layout). r.groups_from + x.group_count) (sym layout) ∙ a.kept.grouped.count

  pub is-stored : (spans : Bor (List BufferPart)) → spans.now ≡ slice_range groups r.groups_from (r.groups_from + at.group_count) → IsStored found (record { statement_record = r; numbers = run; layout = at; groups = spans })
  is-stored spans part =
      let p = a.kept.placed in let w = a.kept.grouped in
      let of_next : spans.now ≡ spans_by groups r next = part ∙ ap (slice_range groups r.groups_from) groups-count in
      record {
        ordered = rw laid (ordered r.has_parts run.now);
        whole = sym (ap (λ (x : Layout). x.end) layout) ∙ (p.whole ∙ sym (ap length same));
        grouped = rw (of_next, ← layout) w.spans;
        entry = a.entry ∙ (let l = layout in cc);
      }

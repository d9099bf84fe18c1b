-- Where blocks end, as statements are appended or removed, and which statements are active by the
-- ends.
use Rattle.frame.proofs.Words.{sym, ◌∙◌, ap, subst, arith, inl, inr, length-append, length-drop, add-zero, ◌≡◌, ◌≢◌, ℕ, zero, suc, ◌+◌, ◌-◌, ◌<◌, ◌≤◌, Bool, true, false, cond, not, ◌==◌, ◌&&◌, ◌||◌, nat_eq, nat_le, ◌⊎◌, List, [], ◌∷◌, ◌++◌, length, take, drop, get_or, slice_get, slice_set, Option, Some, None, refl, get_or-append_seam, get_or-take, drop-append-le, drop-take, length-take-le, take-append-drop, get_or-set_other, drop_all, length-set, length-map, nil_from_length, take-take, cases_eq, and_parts, slice_get_within, same_Some, slice_get-get_or, Stmt, Open, Close, Database, stays_open, is_open, is_close, is_active, deficit, no_deficit, below-deficit, deficit-close, left_open, stays_open-same, place, LastActive, last_active_of_kind, last_position, last_active_of, kind_of, IsPlain, Kind, Storage, names_in, labels_in, statements_of, stmt_by, stmt_of, Name, decode, name_at, get-push, get-more, AreStored, end_from, end_of, is_open_at, AreBlockEnds, AreEnds, AreBlocks, with_end, Entry, get_or-append, get_or-set_at}
use Rattle.std.specs.Cmp.{both_ways}
use Rattle.scope.proofs.ActiveLemmas as scope
use Rattle.entries.specs.declared.kind.Kind.TheVariants as kind
use Rattle.frame.proofs.StoredReading.{get-stmt}
use Rattle.frame.proofs.OpenLemmas.{HasLast, IsLast, split_last, last-position, left-count, deficit-join, stays_open-front, is-open}
use Rattle.frame.proofs.LastActiveLemmas.{cut-here, length-cut, drop-front}
use Rattle.frame.proofs.BlockWalkLemmas.{get-take, take-one, last-within, active-stays, walk-back, walk-over}

-- ---- the last open block

-- no block is open after the last open `${`
last-open : (S : Database) (b : ℕ) → last_active_of_kind is_open S ≡ suc b → (stays_open 0 (drop (suc b) S) ≡ true) × (left_open (drop (suc b) S) ≡ 0)
last-open S b e = by (split_last is_open S)
  where
    by : HasLast is_open S → (stays_open 0 (drop (suc b) S) ≡ true) × (left_open (drop (suc b) S) ≡ 0)
    by (inl none) = let z : last_active_of_kind is_open S ≡ 0 = ap last_position (none 1) in absurd (omega (arith, z, e))
    by (inr p) =
        let n : suc b ≡ suc (length p.0) = omega (arith, e, last-position is_open S p.0 p.1 p.2 refl p.3) in
        let rest : drop (suc b) S ≡ p.2 = ap (λ m. drop m S) n ∙ (ap (drop (suc (length p.0))) p.3.cut ∙ drop-front p.0 p.1 p.2) in
        (ap (stays_open 0) rest ∙ p.3.stays, ap left_open rest ∙ (left-count 0 p.2 ∙ ap length (p.3.alone 0)))

-- a `${` whose block is open is the last one if no block is open after it
open-last : (S : Database) (b : ℕ) (t : Stmt) → slice_get S b ≡ Some t → is_open t ≡ true → stays_open 0 (drop (suc b) S) ≡ true → left_open (drop (suc b) S) ≡ 0 → last_active_of_kind is_open S ≡ suc b
open-last S b t g o h z =
    let l : IsLast is_open S (take b S) t (drop (suc b) S) = record { cut = cut-here S b t g; of_kind = o; stays = h; alone = λ at. nil_from_length _ (sym (left-count at (drop (suc b) S)) ∙ z) } in
    omega (arith, last-position is_open S (take b S) t (drop (suc b) S) refl l, length-cut S b t g)

-- a `$}` closes the last open block, and no other
module _ (S : Database) (b block : ℕ) (t : Stmt) (get : slice_get S b ≡ Some t) (opens : is_open t ≡ true) (is : block ≡ last_active_of_kind is_open S) where
  abbrev R : Database
  R = drop (suc b) S

  shuts : (s : Stmt) → (stays_open 0 R && not (stays_open 0 (R ++ s ∷ []))) ≡ (is_close s && nat_eq block (suc b))
  shuts Close = both_ways _ _ last ended
    where
      last : (stays_open 0 R && not (stays_open 0 (R ++ Close ∷ []))) ≡ true → nat_eq block (suc b) ≡ true
      last h =
          let p = and_parts (stays_open 0 R) (not (stays_open 0 (R ++ Close ∷ []))) h in
          let here : block ≡ suc b = is ∙ open-last S b t get opens p.0 (none (left_open R) refl p.0 p.1) in
          grind (arith, here)
        where
          none : (n : ℕ) → left_open R ≡ n → stays_open 0 R ≡ true → not (stays_open 0 (R ++ Close ∷ [])) ≡ true → n ≡ 0
          none zero e o f = refl
          none (suc n) e o f = let more = below-deficit 0 (R ++ Close ∷ []) (omega (arith, deficit-close R, no_deficit R o, e)) in let bad : false ≡ true = sym (ap not more) ∙ f in cc

      ended : nat_eq block (suc b) ≡ true → (stays_open 0 R && not (stays_open 0 (R ++ Close ∷ []))) ≡ true
      ended h =
          let here : block ≡ suc b = grind (arith, h) in
          let l = last-open S b (sym is ∙ here) in
          rw l.0 (shut (stays_open 0 (R ++ Close ∷ [])) refl l.0 l.1)
        where
          shut : (x : Bool) → stays_open 0 (R ++ Close ∷ []) ≡ x → stays_open 0 R ≡ true → left_open R ≡ 0 → not x ≡ true
          shut true e o z = absurd (omega (arith, no_deficit (R ++ Close ∷ []) e, deficit-close R, z))
          shut false e o z = refl
  shuts s = rw (scope.stays_open-append 0 R s refl) (never (stays_open 0 R))
    where
      never : (x : Bool) → (x && not x) ≡ false
      never true = refl
      never false = refl

-- ---- the end of one block

-- a block that stays open has no end
end-none : (d at : ℕ) (U : Database) → stays_open d U ≡ true → end_from d at U ≡ 0
end-none d at [] h = refl
end-none d at (Open ∷ U) h = end-none (suc d) (at + 1) U h
end-none zero at (Close ∷ U) h = cc
end-none (suc d) at (Close ∷ U) h = end-none d (at + 1) U h
end-none d at (s ∷ U) h = end-none d (at + 1) U h

-- an appended statement ends the block if it closes it
end-more : (d at : ℕ) (U : Database) (s : Stmt) → end_from d at (U ++ s ∷ []) ≡ cond (stays_open d U && not (stays_open d (U ++ s ∷ []))) (at + length U) (end_from d at U)
end-more zero at [] Close = omega arith
end-more (suc d) at [] Close = refl
end-more d at [] s = refl
end-more d at (Open ∷ U) s = end-more (suc d) (at + 1) U s ∙ rw (place at (length U)) refl
end-more zero at (Close ∷ U) s = refl
end-more (suc d) at (Close ∷ U) s = end-more d (at + 1) U s ∙ rw (place at (length U)) refl
end-more d at (t ∷ U) s = end-more d (at + 1) U s ∙ rw (place at (length U)) refl

lower : (at e : ℕ) → (e == 0 || nat_le (at + 1) e) ≡ true → (e == 0 || nat_le at e) ≡ true
lower at zero h = refl
lower at (suc e) h = grind (arith, h)

-- a block has no end, or its end is not before its first statement
end-low : (d at : ℕ) (U : Database) → (end_from d at U == 0 || nat_le at (end_from d at U)) ≡ true
end-low d at [] = refl
end-low d at (Open ∷ U) = lower at (end_from (suc d) (at + 1) U) (end-low (suc d) (at + 1) U)
end-low zero at (Close ∷ U) = grind arith
end-low (suc d) at (Close ∷ U) = lower at (end_from d (at + 1) U) (end-low d (at + 1) U)
end-low d at (s ∷ U) = lower at (end_from d (at + 1) U) (end-low d (at + 1) U)

-- after the first k statements the block is open exactly if it has no end, or a later one
end-tells : (d at k : ℕ) (U : Database) → 1 ≤ at → stays_open d (take k U) ≡ (end_from d at U == 0 || nat_le (at + k) (end_from d at U))
end-tells d at zero U one = sym (ap (λ n. end_from d at U == 0 || nat_le n (end_from d at U)) (add-zero at) ∙ end-low d at U)
end-tells d at (suc k) [] one = refl
end-tells d at (suc k) (Open ∷ U) one = rw (← place at k) (end-tells (suc d) (at + 1) k U (omega arith))
end-tells zero at (suc k) (Close ∷ U) one = grind (arith, one)
end-tells (suc d) at (suc k) (Close ∷ U) one = rw (← place at k) (end-tells d (at + 1) k U (omega arith))
end-tells d at (suc k) (s ∷ U) one = rw (← place at k) (end-tells d (at + 1) k U (omega arith))

-- ---- the ends of all blocks

pub length-with : (q : Kind) (block at : ℕ) (ends : List ℕ) → length (with_end q block at ends) ≡ length ends
length-with kind.Close zero at ends = refl
length-with kind.Close (suc b) at ends = length-set ends b at
length-with q block at ends = refl

-- a `$}` records its position as the end of the block that it closes
recorded-end : (ends : List ℕ) (s : Stmt) (block at b : ℕ) → b < length ends → get_or (with_end (kind_of s) block at ends) b 0 ≡ cond (is_close s && nat_eq block (suc b)) at (get_or ends b 0)
recorded-end ends Close zero at b lt = let no : nat_eq zero (suc b) ≡ false = grind arith in rw no refl
recorded-end ends Close (suc k) at b lt = by (cases_eq b k)
  where
    by : (b ≡ k) ⊎ (b ≢ k) → get_or (slice_set ends k at) b 0 ≡ cond (nat_eq (suc k) (suc b)) at (get_or ends b 0)
    by (inl e) = let here : nat_eq (suc k) (suc b) ≡ true = grind (arith, e) in rw here (get_or-set_at ends k b at 0 e (omega (arith, e, lt)))
    by (inr n) = let no : nat_eq (suc k) (suc b) ≡ false = grind (arith, n) in rw no (get_or-set_other ends k b at 0 n)
recorded-end ends s block at b lt = refl

-- the end of the block of a `${`, with the next statement and without it
end-step : (S : Database) (b block : ℕ) (t s : Stmt) → slice_get S b ≡ Some t → is_open t ≡ true → block ≡ last_active_of_kind is_open S
    → (end_of b (S ++ s ∷ []) ≡ cond (is_close s && nat_eq block (suc b)) (length S + 1) (end_of b S)) × (end_of b S ≡ cond (is_close s && nat_eq block (suc b)) 0 (end_of b (S ++ s ∷ [])))
end-step S b block t s get opens is = (more, less (is_close s && nat_eq block (suc b)) (shuts S b block t get opens is s) more)
  where
    lt : b < length S
    lt = slice_get_within S b t get

    more : end_of b (S ++ s ∷ []) ≡ cond (is_close s && nat_eq block (suc b)) (length S + 1) (end_of b S)
    more =
        let place : b + 2 + length (drop (suc b) S) ≡ length S + 1 = omega (arith, lt, length-drop (suc b) S) in
        ap (end_from 0 (b + 2)) (drop-append-le (suc b) S (s ∷ []) (omega (arith, lt)))
        ∙ (end-more 0 (b + 2) (drop (suc b) S) s ∙ rw (shuts S b block t get opens is s, place) refl)

    less : (q : Bool) → (stays_open 0 (drop (suc b) S) && not (stays_open 0 (drop (suc b) S ++ s ∷ []))) ≡ q → end_of b (S ++ s ∷ []) ≡ cond q (length S + 1) (end_of b S) → end_of b S ≡ cond q 0 (end_of b (S ++ s ∷ []))
    less true e f = end-none 0 (b + 2) (drop (suc b) S) (and_parts (stays_open 0 (drop (suc b) S)) (not (stays_open 0 (drop (suc b) S ++ s ∷ []))) e).0
    less false e f = sym f

-- the recorded ends after a statement is appended
pub tells-more : (ends : List ℕ) (S : Database) (s : Stmt) (block : ℕ) → length ends ≡ length S → AreBlockEnds ends S → block ≡ last_active_of_kind is_open S
    → AreBlockEnds (with_end (kind_of s) block (length S + 1) (ends ++ 0 ∷ [])) (S ++ s ∷ [])
tells-more ends S s block n told is b t g opens = recorded-end (ends ++ 0 ∷ []) s block (length S + 1) b (omega (arith, length-append ends (0 ∷ []), length-append S (s ∷ []), slice_get_within (S ++ s ∷ []) b t g, n)) ∙ by (get-push S s t b g)
  where
    by : ((b < length S) × (slice_get S b ≡ Some t)) ⊎ ((b ≡ length S) × (s ≡ t)) → cond (is_close s && nat_eq block (suc b)) (length S + 1) (get_or (ends ++ 0 ∷ []) b 0) ≡ end_of b (S ++ s ∷ [])
    by (inl p) = rw (get_or-append ends (0 ∷ []) 0 b (omega (arith, n, p.0)), told b t p.1 opens) (sym (end-step S b block t s p.1 opens is).0)
    by (inr p) =
        let none : drop (suc b) (S ++ s ∷ []) ≡ [] = drop_all (suc b) (S ++ s ∷ []) (omega (arith, length-append S (s ∷ []), p.0)) in
        let zero_there : get_or (ends ++ 0 ∷ []) b 0 ≡ 0 = ap (λ i. get_or (ends ++ 0 ∷ []) i 0) (p.0 ∙ sym n) ∙ get_or-append_seam ends 0 [] 0 in
        rw (none, is-open s (ap is_open p.1 ∙ opens)) zero_there

-- the recorded ends after a statement is removed
pub tells-less : (ends : List ℕ) (S : Database) (s : Stmt) (block : ℕ) → length S ≤ length ends → AreBlockEnds ends (S ++ s ∷ []) → block ≡ last_active_of_kind is_open S
    → AreBlockEnds (with_end (kind_of s) block 0 ends) S
tells-less ends S s block n told is b t g opens =
    let lt = slice_get_within S b t g in
    recorded-end ends s block 0 b (omega (arith, n, lt))
    ∙ (ap (cond (is_close s && nat_eq block (suc b)) 0) (told b t (get-more S (s ∷ []) b t g) opens) ∙ sym (end-step S b block t s g opens is).1)

-- ---- the active statements, by the ends of blocks

plain-deficit : (s : Stmt) (T : Database) → is_open s ≡ false → is_close s ≡ false → deficit (s ∷ T) ≡ deficit T
plain-deficit Open T o c = cc
plain-deficit Close T o c = cc
plain-deficit s T o c = refl

module _ (S : Database) (i at : ℕ) (s : Stmt) (one : 1 ≤ i) (lt : i < at) (le : at ≤ length S + 1) (get : slice_get S (i - 1) ≡ Some s) (o : is_open s ≡ false) (c : is_close s ≡ false) where
  abbrev E : Database
  E = take (at - 1) S

  abbrev X : Database
  X = take (i - 1) S

  abbrev T : Database
  T = drop i E

  cut : E ≡ X ++ s ∷ T
  cut =
      let up : suc (i - 1) ≡ i = omega (arith, one) in
      cut-here E (i - 1) s (get-take (i - 1) (at - 1) S (omega (arith, lt, one)) ∙ get)
      ∙ (ap (λ n. take (i - 1) E ++ s ∷ drop n E) up ∙ ap (λ r. r ++ s ∷ T) (take-take (i - 1) (at - 1) S (omega (arith, lt))))

  -- a statement outside all blocks is active
  pub active-outside : stays_open 0 S ≡ true → last_active_of_kind is_open X ≡ 0 → is_active S i at ≡ true
  active-outside whole z =
      let none : left_open X ≡ 0 = left-count 1 X ∙ ap length (walk-over is_open X refl z) in
      let h : stays_open 0 E ≡ true = stays_open-front 0 E (drop (at - 1) S) (ap (stays_open 0) (take-append-drop (at - 1) S) ∙ whole) in
      let join = ap deficit cut ∙ deficit-join X (s ∷ T) in
      active-stays S i at one lt ∙ below-deficit 0 T (omega (arith, no_deficit E h, join, none, plain-deficit s T o c))

  -- a statement in a block is active exactly if the block has no end, or a later one
  pub active-inside : (b : ℕ) → last_active_of_kind is_open X ≡ suc b → is_active S i at ≡ (end_of b S == 0 || nat_le at (end_of b S))
  active-inside b is =
      let last = last-open X b is in
      let B = drop (suc b) X in
      let low : suc b ≤ length X = omega (arith, is, last-within is_open X refl) in
      let short : length X ≡ i - 1 = length-take-le (i - 1) S (omega (arith, lt, le)) in
      let k = at - 1 - suc b in
      let after : drop (suc b) E ≡ B ++ s ∷ T = ap (drop (suc b)) cut ∙ drop-append-le (suc b) X (s ∷ T) low in
      let rest : drop (suc b) E ≡ take k (drop (suc b) S) = let up : at - 1 ≡ suc b + k = omega (arith, low, short, lt) in ap (λ m. drop (suc b) (take m S)) up ∙ drop-take (suc b) k S in
      let place : b + 2 + k ≡ at = omega (arith, low, short, lt) in
      active-stays S i at one lt
      ∙ (sym (stays_open-same (B ++ s ∷ T) T (omega (arith, deficit-join B (s ∷ T), no_deficit B last.0, last.1, plain-deficit s T o c)))
      ∙ (ap (stays_open 0) (sym after ∙ rest)
      ∙ (end-tells 0 (b + 2) k (drop (suc b) S) (omega arith) ∙ ap (λ n. end_of b S == 0 || nat_le n (end_of b S)) place)))

-- whether a statement that is neither `${` nor `$}` is active at `at`, by the end of its block
pub record IsTold (ends : List ℕ) (S : Database) (i at block : ℕ) : Type 0 where
  pub within : block ≤ length ends
  pub told : is_active S i at ≡ is_open_at ends block at

pub told-by : (ends : List ℕ) (S : Database) (i at block : ℕ) (found : Option Stmt) → AreEnds ends S → stays_open 0 S ≡ true → slice_get S (i - 1) ≡ found → IsPlain found
    → 1 ≤ i → i < at → at ≤ length S + 1 → block ≡ last_active_of_kind is_open (take (i - 1) S) → IsTold ends S i at block
told-by ends S i at block None told whole g plain one lt le is = absurd plain
told-by ends S i at block (Some s) told whole g plain one lt le is = record {
  within = omega (arith, told.count, is, last-within is_open (take (i - 1) S) refl, length-take-le (i - 1) S (omega (arith, lt, le)), lt, le);
  told = by block refl;
}
  where
    by : (b : ℕ) → block ≡ b → is_active S i at ≡ is_open_at ends b at
    by zero z = active-outside S i at s one lt le g plain.0 plain.1 whole (sym is ∙ z)
    by (suc b) z =
        let w = walk-back is_open S (i - 1) (suc b) refl (sym z ∙ is) (λ e. cc) in
        let up : suc b - 1 ≡ b = omega arith in
        active-inside S i at s one lt le g plain.0 plain.1 b (sym is ∙ z) ∙ ap (λ r. r == 0 || nat_le at r) (sym (told.tell b w.0 (ap (slice_get S) (sym up) ∙ w.1.stands) w.1.of_kind))

pub active-told : (k : Storage) (i at : ℕ) (l : LastActive) → AreStored k → (1 ≤ i) × (i < at) × (at ≤ length (statements_of k) + 1) → IsPlain (slice_get (statements_of k) (i - 1)) → l ≡ last_active_of (take (i - 1) (statements_of k))
    → IsTold k.ends.items (statements_of k) i at l.block
active-told k i at l stored place plain is =
    told-by k.ends.items (statements_of k) i at l.block (slice_get (statements_of k) (i - 1)) stored.ended stored.kept.stays refl plain place.0 place.1 place.2 (ap (λ r. r.block) is)

-- ---- the ends in the storage

-- with a place for the next statement, the ends have one for the last open block
pub block-within : (k : Storage) (block : ℕ) (ends : List ℕ) → AreStored k → block ≡ k.last_active.block → ends ≡ k.ends.items ++ 0 ∷ [] → block ≤ length ends
block-within k block ends stored same more =
    let a = last-within is_open (statements_of k) refl in
    let last_active = ap (λ l. l.block) stored.kept.last in
    omega (arith, a, last_active, stored.ended.count, length-append k.ends.items (0 ∷ []), ap length more, same)

-- the ends after a statement is appended
pub ends-next : (k : Storage) (s : Stmt) (T : Database) (q : Kind) (block at : ℕ) (ends ends' : List ℕ) → AreStored k → q ≡ kind_of s → block ≡ k.last_active.block → at ≡ length k.entries + 1 → ends ≡ k.ends.items ++ 0 ∷ []
    → ends' ≡ with_end q block at ends → T ≡ statements_of k ++ s ∷ [] → AreEnds ends' T
ends-next k s T q block at ends ends' stored of_kind same place more recorded is =
    let S = statements_of k in
    let n = stored.ended.count in
    let size : length k.entries ≡ length S = sym (length-map k.entries (stmt_of (names_in k) (labels_in k))) in
    let at_end : at ≡ length S + 1 = omega (arith, place, size) in
    let all : ends' ≡ with_end (kind_of s) block (length S + 1) (k.ends.items ++ 0 ∷ []) = rw (← more, ← at_end, ← of_kind) recorded in
    rw (all, is) (record {
      count = omega (arith, length-with (kind_of s) block (length S + 1) (k.ends.items ++ 0 ∷ []), length-append k.ends.items (0 ∷ []), length-append S (s ∷ []), n);
      tell = tells-more k.ends.items S s block n stored.ended.tell (same ∙ ap (λ l. l.block) stored.kept.last);
    })

-- the ends of the first n statements
pub ends-front : (ends : List ℕ) (S : Database) (n : ℕ) → n ≤ length S → length ends ≡ length S → AreBlockEnds ends (take n S) → AreEnds (take n ends) (take n S)
ends-front ends S n le size told = record {
  count = length-take-le n ends (omega (arith, le, size)) ∙ sym (length-take-le n S le);
  tell = λ b s g o. get_or-take n ends b 0 (omega (arith, slice_get_within (take n S) b s g, length-take-le n S le)) ∙ told b s g o;
}

-- ---- the last statement is removed

pub block-fits : (es : List Entry) (S : Database) (i n : ℕ) (e : Entry) → AreBlocks es S → slice_get es i ≡ Some e → length S ≡ n → e.last_active.block ≤ n
block-fits es S i n e told g size =
    let lt = slice_get_within es i e g in
    omega (arith, told.blocks i e g, last-within is_open (take i S) refl, lt, length-take-le i S (omega (arith, lt, told.count)), told.count, size)

pub ends-taken : (es : List Entry) (S : Database) (i : ℕ) (e : Entry) (ends ends' : List ℕ) → AreBlocks es S → slice_get es i ≡ Some e → length S ≡ length ends → AreBlockEnds ends (take (suc i) S)
    → ends' ≡ with_end e.kind e.last_active.block 0 ends → AreBlockEnds ends' (take i S)
ends-taken es S i e ends ends' blocks here size told recorded =
    let below : i < length S = omega (arith, slice_get_within es i e here, blocks.count) in
    let s = get_or S i Open in
    let g : slice_get S i ≡ Some s = slice_get-get_or S i Open below in
    rw (recorded, blocks.kinds i e s here g)
    (tells-less ends (take i S) s e.last_active.block (omega (arith, length-take-le i S (omega (arith, below)), below, size)) (subst (AreBlockEnds ends) (take-one S i s g) told) (blocks.blocks i e here))

kind-by : (q : Kind) (label : Name) (names : List Name) → q ≡ kind_of (stmt_by q label names)
kind-by kind.Open label names = refl
kind-by kind label names = refl

pub stored-blocks : (k : Storage) → AreStored k → AreBlocks k.entries (statements_of k)
stored-blocks k stored = record {
  count = sym (length-map k.entries (stmt_of (names_in k) (labels_in k)));
  kinds = λ i e s g h. kind-by e.kind (name_at (labels_in k) e.label_count) (decode (names_in k) e.symbols)
      ∙ ap kind_of (same_Some (stmt_of (names_in k) (labels_in k) e) s (sym (get-stmt (names_in k) (labels_in k) k.entries i e g) ∙ h));
  blocks = λ i e g. ap (λ l. l.block) (stored.kept.linked i e g);
}

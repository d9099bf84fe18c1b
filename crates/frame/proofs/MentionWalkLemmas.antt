-- The walk from the last mention before a position down to the first one that is active there.
use Rattle.frame.proofs.Words.{◌≡◌, ◌∙◌, ap, sym, subst, arith, refl, inl, inr, ℕ, zero, suc, ◌+◌, ◌-◌, ◌<◌, ◌≤◌, ◌⊎◌, Bool, true, false, cond, ◌&&◌, List, [], ◌∷◌, ◌++◌, length, map, take, drop, take-append_seam, take-take, append-nil, length-append, length-take-le, slice_get, slice_get_within, Some, None, Option, AreBelow, Stmt, Database, Entry, is_open, is_close, is_active, stays_open, actives, actives_from, last_active_of_kind, has_code, having_after, positions_with, IsOfKind, kind_test, In, Kind, Disj, take-get, take-append-le, get-last, get_or_from_slice_get, false_from_ne_true, and_parts, true≢false, IfSome, IfNone, length-take, get_or, slice_get-get_or}
use Rattle.entries.proofs.MentionLemmas.{before-below, before-has, positions-push}
use Rattle.entries.specs.Mentions.{IsFront, IsLast, before, positions_of}
use Rattle.entries.specs.declared.mentions.Mention.{Mention}
use Rattle.frame.proofs.LegalAfter.{stands-at}
use Rattle.mm_read.specs.declared.stmt.Stmt.TheVariants as stmt
use Rattle.frame.proofs.ActivePositions.{active-members, members-active}
use Rattle.frame.proofs.BlockWalkLemmas.{active-stays, get-take, take-one}
use Rattle.frame.proofs.LastActiveLemmas.{actives-push, actives-close, cut-here, length-cut, drop-front}
use Rattle.frame.proofs.OpenLemmas.{HasLast, IsNoClose, split_last, last-position, actives-append, stays-from, is-open}
use Rattle.frame.proofs.PositionsWith.{having-append, positions_with-push}
use Rattle.frame.specs.Stored.MentionLists.{IsListOf, IsSound, IsTail, passes, stands}

-- ---- tails

pub tail-same : (xs : List ℕ) → IsTail xs xs
tail-same [] = refl
tail-same (x ∷ xs) = inl refl

pub tail-none : (ys : List ℕ) → IsTail [] ys
tail-none [] = refl
tail-none (y ∷ ys) = inr (tail-none ys)

pub tail-trans : (xs ys zs : List ℕ) → IsTail xs ys → IsTail ys zs → IsTail xs zs
tail-trans xs ys [] a b = subst (IsTail xs) b a
tail-trans xs ys (z ∷ zs) a (inl same) = subst (IsTail xs) same a
tail-trans xs ys (z ∷ zs) a (inr b) = inr (tail-trans xs ys zs a b)

pub tail-in : (p : ℕ) (xs ys : List ℕ) → IsTail xs ys → In p xs → In p ys
tail-in p xs [] t i = subst (In p) t i
tail-in p xs (y ∷ ys) (inl same) i = subst (In p) same i
tail-in p xs (y ∷ ys) (inr t) i = inr (tail-in p xs ys t i)

-- the first item is not among those
pub tail-step : (xs : List ℕ) (p : ℕ) (ys : List ℕ) → IsTail xs (p ∷ ys) → (In p xs → ⊥) → IsTail xs ys
tail-step xs p ys (inl same) not_in = absurd (not_in (subst (In p) (sym same) (inl refl)))
tail-step xs p ys (inr t) not_in = t

below-not : (p q : ℕ) (ys : List ℕ) → AreBelow p ys → In q ys → q < p
below-not p q [] b i = absurd i
below-not p q (y ∷ ys) b (inl same) = let here = b.0 in omega (arith, here, same)
below-not p q (y ∷ ys) b (inr i) = below-not p q ys b.1 i

-- the first item is among those, and the others are smaller
pub tail-here : (xs : List ℕ) (p : ℕ) (ys : List ℕ) → IsTail xs (p ∷ ys) → AreBelow p ys → In p xs → xs ≡ p ∷ ys
tail-here xs p ys (inl same) below i = same
tail-here xs p ys (inr t) below i = absurd (let lt = below-not p p ys below (tail-in p xs ys t i) in omega (arith, lt))

pub having-tail : (found : List ℕ) (es : List Entry) (c : ℕ) (ps : List (ℕ × Stmt)) → IsTail found (having_after found es c ps)
having-tail found es c [] = tail-same found
having-tail found es c (p ∷ ps) = by (has_code es c p.0) (having-tail (cond (has_code es c p.0) (p.0 ∷ found) found) es c ps)
  where
    by : (b : Bool) → IsTail (cond (has_code es c p.0) (p.0 ∷ found) found) (having_after (cond (has_code es c p.0) (p.0 ∷ found) found) es c ps)
        → IsTail found (having_after (cond (has_code es c p.0) (p.0 ∷ found) found) es c ps)
    by b t = tail-trans found (cond (has_code es c p.0) (p.0 ∷ found) found) _ (one (has_code es c p.0)) t
      where
        one : (b : Bool) → IsTail found (cond b (p.0 ∷ found) found)
        one true = inr (tail-same found)
        one false = tail-same found

-- ---- what is active later is a part of what was active

module _ (kind : Stmt → Bool) (no_close : IsNoClose kind) (no_open : kind stmt.Open ≡ false) (es : List Entry) (c : ℕ) where
  abbrev with : Database → List ℕ
  with S = positions_with es c (actives kind S)

  -- the statements in front of the last open block
  front-tail : (S : Database) → IsTail (with (take (last_active_of_kind is_open S - 1) S)) (with S)
  front-tail S = by (split_last is_open S)
    where
      by : HasLast is_open S → IsTail (with (take (last_active_of_kind is_open S - 1) S)) (with S)
      by (inl none) =
          let z : last_active_of_kind is_open S ≡ 0 = rw (none 1) refl in
          subst (λ n. IsTail (with (take (n - 1) S)) (with S)) (sym z) (tail-none (with S))
      by (inr q) =
          let A = q.0 in
          let at = last-position is_open S A q.1 q.2 refl q.3 in
          let opens : q.1 ≡ stmt.Open = is-open q.1 q.3.of_kind in
          let front : take (last_active_of_kind is_open S - 1) S ≡ A = ap (λ n. take n S) (omega (arith, at)) ∙ (ap (take (length A)) q.3.cut ∙ take-append_seam A (q.1 ∷ q.2)) in
          let whole : actives kind S ≡ actives kind A ++ actives_from kind (1 + length A) (q.1 ∷ q.2) =
          ap (actives kind) q.3.cut ∙ actives-append kind 1 A (q.1 ∷ q.2) (stays-from q.1 q.2 (ap is_close opens) q.3.stays) in
          let all : with S ≡ having_after (with A) es c (actives_from kind (1 + length A) (q.1 ∷ q.2)) = ap (positions_with es c) whole ∙ having-append [] es c (actives kind A) _ in
          subst (λ T. IsTail (with T) (with S)) (sym front) (subst (IsTail (with A)) (sym all) (having-tail (with A) es c (actives_from kind (1 + length A) (q.1 ∷ q.2))))

  -- one statement more, which is not of the kind or has not the symbol
  step-tail : (S : Database) (s : Stmt) → (kind s ≡ true → has_code es c (1 + length S) ≡ false) → IsTail (with (S ++ s ∷ [])) (with S)
  step-tail S s lacks = by (is_close s) (kind s) refl refl
    where
      by : (b k : Bool) → is_close s ≡ b → kind s ≡ k → IsTail (with (S ++ s ∷ [])) (with S)
      by true k closes e = subst (λ T. IsTail (positions_with es c T) (with S)) (sym (ap (λ t. actives kind (S ++ t ∷ [])) (is-closed s closes) ∙ actives-close kind S no_close)) (front-tail S)
        where
          is-closed : (t : Stmt) → is_close t ≡ true → t ≡ stmt.Close
          is-closed stmt.Close h = refl
          is-closed t h = cc
      by false true stays e =
          let same : with (S ++ s ∷ []) ≡ with S =
          ap (positions_with es c) (actives-push kind S s stays ∙ ap (λ b. actives kind S ++ cond b ((1 + length S, s) ∷ []) []) e)
          ∙ (positions_with-push es c (actives kind S) (1 + length S, s) ∙ ap (λ b. cond b ((1 + length S) ∷ with S) (with S)) (lacks e)) in
          subst (λ xs. IsTail xs (with S)) (sym same) (tail-same (with S))
      by false false stays e =
          let same : with (S ++ s ∷ []) ≡ with S =
          ap (positions_with es c) (actives-push kind S s stays ∙ (ap (λ b. actives kind S ++ cond b ((1 + length S, s) ∷ []) []) e ∙ append-nil (actives kind S))) in
          subst (λ xs. IsTail xs (with S)) (sym same) (tail-same (with S))

  pub later-tail : (S : Database) (n more : ℕ) → n + more ≤ length S → ((p : ℕ) → n < p → p ≤ n + more → IsOfKind kind S p → has_code es c p ≡ false) → IsTail (with (take (n + more) S)) (with (take n S))
  later-tail S n zero le lacks = subst (λ m. IsTail (with (take m S)) (with (take n S))) (omega arith) (tail-same (with (take n S)))
  later-tail S n (suc more) le lacks =
      let t = get_or S (n + more) stmt.Open in
      let here : slice_get S (n + more) ≡ Some t = slice_get-get_or S (n + more) stmt.Open (omega (arith, le)) in
      let size : length (take (n + more) S) ≡ n + more = length-take-le (n + more) S (omega (arith, le)) in
      let up : n + suc more ≡ suc (n + more) = omega arith in
      let one : take (n + suc more) S ≡ take (n + more) S ++ t ∷ [] = ap (λ m. take m S) up ∙ take-one S (n + more) t here in
      let lack : kind t ≡ true → has_code es c (1 + length (take (n + more) S)) ≡ false =
      λ k.
      let place : 1 + length (take (n + more) S) ≡ n + more + 1 = omega (arith, size) in
      let back : n + more + 1 - 1 ≡ n + more = omega arith in
      ap (has_code es c) place ∙ lacks (n + more + 1) (omega arith) (omega arith) (record { one = omega arith; statement = t; stands = ap (slice_get S) back ∙ here; of_kind = k }) in
      tail-trans (with (take (n + suc more) S)) (with (take (n + more) S)) (with (take n S))
      (subst (λ T. IsTail (with T) (with (take (n + more) S))) (sym one) (step-tail (take (n + more) S) t lack))
      (later-tail S n more (omega (arith, le)) (λ p lt low o. lacks p lt (omega (arith, low)) o))

-- ---- the positions found are those of active statements

having-in : (p : ℕ) (found : List ℕ) (es : List Entry) (c : ℕ) (ps : List (ℕ × Stmt)) → In p (having_after found es c ps) → In p found ⊎ In p (map (λ x. x.0) ps)
having-in p found es c [] i = inl i
having-in p found es c (q ∷ ps) i = by (having-in p (cond (has_code es c q.0) (q.0 ∷ found) found) es c ps i)
  where
    one : (b : Bool) → In p (cond b (q.0 ∷ found) found) → In p found ⊎ In p (map (λ x. x.0) (q ∷ ps))
    one true (inl e) = inr (inl e)
    one true (inr j) = inl j
    one false j = inl j

    by : In p (cond (has_code es c q.0) (q.0 ∷ found) found) ⊎ In p (map (λ x. x.0) ps) → In p found ⊎ In p (map (λ x. x.0) (q ∷ ps))
    by (inl j) = one (has_code es c q.0) j
    by (inr j) = inr (inr j)

in-having : (p : ℕ) (found : List ℕ) (es : List Entry) (c : ℕ) (ps : List (ℕ × Stmt)) → has_code es c p ≡ true → In p found ⊎ In p (map (λ x. x.0) ps) → In p (having_after found es c ps)
in-having p found es c [] has (inl i) = i
in-having p found es c [] has (inr i) = absurd i
in-having p found es c (q ∷ ps) has i = in-having p (cond (has_code es c q.0) (q.0 ∷ found) found) es c ps has (by i)
  where
    keep : (b : Bool) → In p found → In p (cond b (q.0 ∷ found) found)
    keep true j = inr j
    keep false j = j

    by : In p found ⊎ In p (map (λ x. x.0) (q ∷ ps)) → In p (cond (has_code es c q.0) (q.0 ∷ found) found) ⊎ In p (map (λ x. x.0) ps)
    by (inl j) = inl (keep (has_code es c q.0) j)
    by (inr (inl e)) = inl (subst (λ b. In p (cond b (q.0 ∷ found) found)) (sym (ap (has_code es c) (sym e) ∙ has)) (inl e))
    by (inr (inr j)) = inr j

module _ (table : Kind) (S : Database) (p at : ℕ) (above : 1 ≤ at) (within : at ≤ length S + 1) where
  abbrev T : Database
  T = take (at - 1) S

  pub in-stands : (es : List Entry) (c : ℕ) → In p (positions_with es c (actives (kind_test table) T)) → stands table S p at ≡ true
  in-stands es c i = by (having-in p [] es c (actives (kind_test table) T) i)
    where
      by : In p [] ⊎ In p (map (λ x. x.0) (actives (kind_test table) T)) → stands table S p at ≡ true
      by (inl j) = absurd j
      by (inr j) =
          let h = active-members T (kind_test table) p [] T 1 refl refl j in
          let size = ap length h.whole ∙ length-append h.front (h.stmt ∷ h.rest) in
          let few : length T ≡ at - 1 = length-take-le (at - 1) S (omega (arith, within)) in
          let place = h.at in
          let one : 1 ≤ p = omega (arith, place) in
          let lt : p < at = omega (arith, place, size, few) in
          let here : slice_get S (p - 1) ≡ Some h.stmt =
          sym (get-take (p - 1) (at - 1) S (omega (arith, lt, one))) ∙ (ap (λ n. slice_get T n) (omega (arith, place)) ∙ (ap (λ R. slice_get R (length h.front)) h.whole ∙ stands-at h.front h.stmt h.rest)) in
          let gone : drop p T ≡ h.rest = ap (λ n. drop n T) place ∙ (ap (drop (suc (length h.front))) h.whole ∙ drop-front h.front h.stmt h.rest) in
          let active_is : is_active S p at ≡ true = active-stays S p at one lt ∙ (ap (stays_open 0) gone ∙ h.stays) in
          ap (λ o. passes (kind_test table) o && is_active S p at) here ∙ (ap (λ b. b && is_active S p at) h.passes ∙ active_is)

  pub stands-kind : 1 ≤ p → stands table S p at ≡ true → IsOfKind (kind_test table) S p × (is_active S p at ≡ true)
  stands-kind one h = by (slice_get S (p - 1)) refl h
    where
      by : (o : Option Stmt) → slice_get S (p - 1) ≡ o → (passes (kind_test table) o && is_active S p at) ≡ true → IsOfKind (kind_test table) S p × (is_active S p at ≡ true)
      by None e g = absurd (cc)
      by (Some s) e g = let both = and_parts (kind_test table s) (is_active S p at) g in (record { one = one; statement = s; stands = e; of_kind = both.0 }, both.1)

  pub stands-in : (es : List Entry) (c : ℕ) → 1 ≤ p → p < at → has_code es c p ≡ true → stands table S p at ≡ true → In p (positions_with es c (actives (kind_test table) T))
  stands-in es c one lt has h =
      let o = stands-kind one h in
      let there : slice_get T (p - 1) ≡ Some o.0.statement = get-take (p - 1) (at - 1) S (omega (arith, lt, one)) ∙ o.0.stands in
      let up : suc (p - 1) ≡ p = omega (arith, one) in
      let stays : stays_open 0 (drop (suc (p - 1)) T) ≡ true = ap (λ n. stays_open 0 (drop n T)) up ∙ (sym (active-stays S p at one lt) ∙ o.1) in
      let whole = cut-here T (p - 1) o.0.statement there in
      let among = members-active (kind_test table) 1 (take (p - 1) T) o.0.statement (drop (suc (p - 1)) T) stays o.0.of_kind in
      let place : 1 + length (take (p - 1) T) ≡ p = omega (arith, one, length-cut T (p - 1) o.0.statement there) in
      in-having p [] es c (actives (kind_test table) T) has (inr (subst (λ n. In n (map (λ x. x.0) (actives (kind_test table) T))) place (subst (λ R. In (1 + length (take (p - 1) T)) (map (λ x. x.0) (actives (kind_test table) R))) (sym whole) among)))

-- ---- the walk

split-last : {A : Type 0} (xs : List A) → (xs ≡ []) ⊎ ((front : List A) × (x : A) × (xs ≡ front ++ x ∷ []))
split-last [] = inl refl
split-last {A = A} (x ∷ xs) = by (split-last xs)
  where
    by : (xs ≡ []) ⊎ ((front : List A) × (y : A) × (xs ≡ front ++ y ∷ [])) → (x ∷ xs ≡ []) ⊎ ((front : List A) × (y : A) × (x ∷ xs ≡ front ++ y ∷ []))
    by (inl none) = inr ([], x, ap (λ r. x ∷ r) none)
    by (inr q) = inr (x ∷ q.0, q.1, ap (λ r. x ∷ r) q.2)

no-open : (table : Kind) → kind_test table stmt.Open ≡ false
no-open Disj = refl
no-open table = refl

pub no-closing : (table : Kind) → IsNoClose (kind_test table)
no-closing Disj = refl
no-closing table = refl

module _ (table : Kind) (es : List Entry) (S : Database) (c : ℕ) (list : List Mention) (is : IsListOf (kind_test table) es S c list) where
  -- the last of the first n mentions
  pub record IsTop (n : ℕ) (front : List Mention) (m : Mention) : Type 0 where
    pub sound : IsSound (kind_test table) es S c list m
    pub positions : positions_of (front ++ m ∷ []) ≡ m.position ∷ positions_of (take m.beneath list)

  pub top-of : (n : ℕ) (front : List Mention) (m : Mention) → take n list ≡ front ++ m ∷ [] → m.position ≤ length S → IsTop n front m
  top-of n front m cut early =
      let got = take-get n (length front) list m (ap (λ l. slice_get l (length front)) cut ∙ get-last front m) in
      let le = is.mentions.linked (length front) m got.1 in
      let low = got.0 in
      let same : take m.beneath front ≡ take m.beneath list =
      sym (take-append-le m.beneath front (m ∷ []) le) ∙ (ap (take m.beneath) (sym cut) ∙ take-take m.beneath n list (omega (arith, le, low))) in
      record { sound = is.sound (length front) m got.1 early; positions = positions-push front m le ∙ ap (λ r. m.position ∷ positions_of r) same }

  module _ (at n : ℕ) (above : 1 ≤ at) (within : at ≤ length S + 1) (first : before at list ≡ take n list) where
    -- no statement of the kind between the last mention before `at` and `at` has the symbol
    lacks : (q : ℕ) → ((j : ℕ) (m : Mention) → slice_get (before at list) j ≡ Some m → m.position ≤ q) → (p : ℕ) → q < p → p ≤ at - 1 → IsOfKind (kind_test table) S p → has_code es c p ≡ false
    lacks q all p lt low o = false_from_ne_true (has_code es c p) (λ has.
        let r = is.complete p o has in
        let b = before-has list at r.0 r.1 r.2 (let e = r.3 in omega (arith, low, e, above)) in
        let most = all b.0 r.1 b.1 in let e = r.3 in absurd (omega (arith, most, e, lt)))

    pub walk-start : IsTail (positions_with es c (actives (kind_test table) (take (at - 1) S))) (positions_of (before at list))
    walk-start = by (split-last (before at list))
      where
        by : (before at list ≡ []) ⊎ ((front : List Mention) × (m : Mention) × (before at list ≡ front ++ m ∷ [])) → IsTail (positions_with es c (actives (kind_test table) (take (at - 1) S))) (positions_of (before at list))
        by (inl none) =
            subst (λ l. IsTail (positions_with es c (actives (kind_test table) (take (at - 1) S))) (positions_of l)) (sym none)
            (subst (λ k. IsTail (positions_with es c (actives (kind_test table) (take k S))) []) start (later-tail (kind_test table) (no-closing table) (no-open table) es c S 0 (at - 1) (omega (arith, within)) (λ p lt low o. lacks 0 (λ j m g. absurd (nothing j m (ap (λ l. slice_get l j) (sym none) ∙ g))) p lt (omega (arith, low)) o)))
          where
            start : 0 + (at - 1) ≡ at - 1
            start = omega arith

            nothing : (j : ℕ) (m : Mention) → slice_get [] j ≡ Some m → ⊥
            nothing j m g = cc
        by (inr q) =
            let front = q.0 in
            let m = q.1 in
            let here : slice_get (before at list) (length front) ≡ Some m = ap (λ l. slice_get l (length front)) q.2 ∙ get-last front m in
            let lt = before-below list at (length front) m here in
            let t = top-of n front m (sym first ∙ q.2) (omega (arith, lt, within)) in
            let all : (j : ℕ) (u : Mention) → slice_get (before at list) j ≡ Some u → u.position ≤ m.position = λ j u g.
            let gu = take-get n j list u (ap (λ l. slice_get l j) (sym first) ∙ g) in
            let gm = take-get n (length front) list m (ap (λ l. slice_get l (length front)) (sym first) ∙ here) in
            let small = slice_get_within (front ++ m ∷ []) j u (ap (λ l. slice_get l j) (sym q.2) ∙ g) in
            let size = length-append front (m ∷ []) in
            let le = is.mentions.ordered j (length front) u (omega (arith, small, size)) (slice_get_within list (length front) m gm.1) in
            let eu = ap (λ (v : Mention). v.position) (get_or_from_slice_get list j u u gu.1) in
            let em = ap (λ (v : Mention). v.position) (get_or_from_slice_get list (length front) m u gm.1) in
            omega (arith, le, eu, em) in
            let more = at - 1 - m.position in
            let sum : m.position + more ≡ at - 1 = omega (arith, lt) in
            let later : IsTail (positions_with es c (actives (kind_test table) (take (at - 1) S))) (positions_with es c (actives (kind_test table) (take m.position S))) =
            subst (λ k. IsTail (positions_with es c (actives (kind_test table) (take k S))) (positions_with es c (actives (kind_test table) (take m.position S)))) sum
            (later-tail (kind_test table) (no-closing table) (no-open table) es c S m.position more (omega (arith, sum, within, above)) (λ p gt low o. lacks m.position all p gt (omega (arith, low, sum)) o)) in
            subst (λ xs. IsTail (positions_with es c (actives (kind_test table) (take (at - 1) S))) xs) (sym (ap positions_of q.2 ∙ t.positions))
            (tail-trans (positions_with es c (actives (kind_test table) (take (at - 1) S))) (positions_with es c (actives (kind_test table) (take m.position S))) (m.position ∷ positions_of (take m.beneath list)) later t.sound.leads)

    abbrev found : List ℕ
    found = positions_with es c (actives (kind_test table) (take (at - 1) S))

    -- the mentions that are left are the first ones, and what is active is found from them down
    pub record IsWalked (stack : List Mention) : Type 0 where
      pub front : (k : ℕ) × (k ≤ length (before at list)) × (stack ≡ take k (before at list))
      pub tail : IsTail found (positions_of stack)

    whole : (k : ℕ) → k ≤ length (before at list) → take k (before at list) ≡ take k list
    whole k le = ap (take k) first ∙ take-take k n list (omega (arith, le, ap length first, length-take n list))

    pub walk-top : (stack front : List Mention) (m : Mention) (w : IsWalked stack) → stack ≡ front ++ m ∷ [] → IsTop w.front.0 front m × (m.position < at)
    walk-top stack front m w cut =
        let f = w.front in
        let in_list = sym (whole f.0 f.1) ∙ (sym f.2 ∙ cut) in
        let here = take-get f.0 (length front) (before at list) m (ap (λ l. slice_get l (length front)) (sym f.2 ∙ cut) ∙ get-last front m) in
        let lt = before-below list at (length front) m here.1 in
        (top-of f.0 front m in_list (omega (arith, lt, within)), lt)

    pub walk-end : (stack : List Mention) → IsWalked stack → ((m : Mention) → IsLast stack m → true ≡ stands table S m.position at) → positions_of stack ≡ found
    walk-end stack w last = by (split-last stack)
      where
        by : (stack ≡ []) ⊎ ((front : List Mention) × (m : Mention) × (stack ≡ front ++ m ∷ [])) → positions_of stack ≡ found
        by (inl none) =
            let t : IsTail found [] = subst (λ l. IsTail found (positions_of l)) none w.tail in
            ap positions_of none ∙ sym t
        by (inr q) =
            let t = walk-top stack q.0 q.1 w q.2 in
            let m = q.1 in
            let p = m.position in
            let h = sym (last m (q.0, q.2)) in
            let one = t.0.sound.one in
            let has = t.0.sound.has (stands-kind table S p at above within one h).0 in
            let positions : positions_of stack ≡ p ∷ positions_of (take m.beneath list) = ap positions_of q.2 ∙ t.0.positions in
            positions ∙ sym (tail-here found p (positions_of (take m.beneath list)) (subst (IsTail found) positions w.tail) t.0.sound.lower (stands-in table S p at above within es c one t.1 has h))

    pub walk-next : (stack new : List Mention) (r : Option ℕ) → IsWalked stack → (stack ≡ [] → false ≡ true) → ((m : Mention) → IsLast stack m → false ≡ stands table S m.position at)
        → IfSome r (λ p. positions_of stack ≡ p ∷ positions_of new) → IfSome r (λ p. IsFront stack new) → IfNone r ((stack ≡ []) × (new ≡ [])) → IsWalked new
    walk-next stack new None w none last some front gone = absurd (true≢false (sym (none gone.0)))
    walk-next stack new (Some p) w none last some front gone = by (split-last stack)
      where
        fewer : (k : ℕ) × (k ≤ length (before at list)) × (new ≡ take k (before at list))
        fewer =
            let f = w.front in
            let size : length stack ≡ f.0 = ap length f.2 ∙ length-take-le f.0 (before at list) f.1 in
            let low = f.1 in
            let lt = front.1 in
            (front.0, omega (arith, low, lt, size), front.2 ∙ (ap (take front.0) f.2 ∙ take-take front.0 f.0 (before at list) (omega (arith, lt, size))))

        by : (stack ≡ []) ⊎ ((before_it : List Mention) × (m : Mention) × (stack ≡ before_it ++ m ∷ [])) → IsWalked new
        by (inl empty) = absurd (true≢false (sym (none empty)))
        by (inr q) =
            let t = walk-top stack q.0 q.1 w q.2 in
            let m = q.1 in
            let positions : p ∷ positions_of new ≡ m.position ∷ positions_of (take m.beneath list) = sym some ∙ (ap positions_of q.2 ∙ t.0.positions) in
            let same : p ≡ m.position = cc in
            let not_in : In p found → ⊥ = λ i. true≢false (sym (in-stands table S p at above within es c i) ∙ (ap (λ k. stands table S k at) same ∙ sym (last m (q.0, q.2)))) in
            record { front = fewer; tail = tail-step found p (positions_of new) (subst (IsTail found) some w.tail) not_in }

-- The parts match a contiguous run of the symbols of an expression exactly if some tail of it
-- begins with what they match.
use Rattle.finding.proofs.PatternPrelude.{◌≡◌, ◌↔◌, ℕ, ◌+◌, ◌≤◌, IsTrue, Some, None, true, false, List, [], ◌∷◌, ◌++◌, length, take, drop, map, refl, ap, sym, ◌∙◌, subst, arith, append_assoc, length-append, drop-append_seam, and_parts, and_from, both_ways, take-append-drop, drop-map, Name, name_eq, name_same, same_name, Part, Symbol, AnySymbol, AnySequence, MatchesExactly, Matches, part_view, segment_len, IsFirstMatch}
use Rattle.finding.proofs.SegmentLemmas.{Begins, IsSomewhere, GoesOn, none_found, all_found, goes_past}

-- symbols that the parts match, with others after them
begins_from : (p : List Part) (run after : List Name) → MatchesExactly (map part_view p) run → Begins p (run ++ after)
begins_from [] run after s = tt
begins_from (Symbol w ∷ p) run after s =
    subst (λ r. Begins (Symbol w ∷ p) (r ++ after)) (sym s.1) (and_from (name_eq w.now w.now) true (name_same w.now) refl, begins_from p s.0 after s.2)
begins_from (AnySymbol ∷ p) run after s =
    subst (λ r. Begins (AnySymbol ∷ p) (r ++ after)) (sym s.2) (refl, begins_from p s.1 after s.3)
begins_from (AnySequence ∷ p) run after s =
    let rest : (s.0 ++ s.1) ++ after ≡ s.0 ++ (s.1 ++ after) = append_assoc s.0 s.1 after in
    let there : Begins p (drop (length s.0) (s.0 ++ (s.1 ++ after))) = subst (Begins p) (sym (drop-append_seam s.0 (s.1 ++ after))) (begins_from p s.1 after s.3) in
    let far : length s.0 ≤ length (s.0 ++ (s.1 ++ after)) = omega (arith, length-append s.0 (s.1 ++ after)) in
    let whole : run ++ after ≡ s.0 ++ (s.1 ++ after) = ap (λ r. r ++ after) s.2 ∙ rest in
    subst (Begins (AnySequence ∷ p)) (sym whole) (length s.0, far, there)

-- symbols that begin with what the parts match: a run that they match, and others
record Front (p : List Part) (e : List Name) : Type 0 where
  run : List Name
  after : List Name
  whole : e ≡ run ++ after
  exact : MatchesExactly (map part_view p) run

front_of : (p : List Part) (e : List Name) → Begins p e → Front p e
front_of [] e b = record { run = []; after = e; whole = refl; exact = refl }
front_of (Symbol w ∷ p) [] b = absurd (both_ways false refl b.0)
front_of (Symbol w ∷ p) (x ∷ e) b =
    let r : Front p e = front_of p e b.1 in
    let same : w.now ≡ x = same_name w.now x (and_parts (name_eq w.now x) true b.0).0 in
    record { run = x ∷ r.run; after = r.after; whole = ap (λ q. x ∷ q) r.whole; exact = (r.run, ap (λ y. y ∷ r.run) (sym same), r.exact) }
front_of (AnySymbol ∷ p) [] b = absurd (both_ways false refl b.0)
front_of (AnySymbol ∷ p) (x ∷ e) b =
    let r : Front p e = front_of p e b.1 in
    record { run = x ∷ r.run; after = r.after; whole = ap (λ q. x ∷ q) r.whole; exact = (x, r.run, refl, r.exact) }
front_of (AnySequence ∷ p) e b =
    let r : Front p (drop b.0 e) = front_of p (drop b.0 e) b.2 in
    record {
      run = take b.0 e ++ r.run;
      after = r.after;
      whole = sym (take-append-drop b.0 e) ∙ (ap (λ q. take b.0 e ++ q) r.whole ∙ sym (append_assoc (take b.0 e) r.run r.after));
      exact = (take b.0 e, r.run, refl, r.exact);
    }

-- if the parts match, a tail begins with what they match ..
pub somewhere_of : (p : List Part) (e : List Name) → Matches (map part_view p) e → IsSomewhere p e
somewhere_of p e m =
    let tail : drop (length m.before) (m.before ++ (m.run ++ m.after)) ≡ m.run ++ m.after = drop-append_seam m.before (m.run ++ m.after) in
    let far : length m.before ≤ length (m.before ++ (m.run ++ m.after)) = omega (arith, length-append m.before (m.run ++ m.after)) in
    subst (IsSomewhere p) (sym m.whole) (length m.before, far, subst (Begins p) (sym tail) (begins_from p m.run m.after m.exact))

-- .. and conversely
pub match_of : (p : List Part) (e : List Name) → IsSomewhere p e → Matches (map part_view p) e
match_of p e there =
    let r : Front p (drop there.0 e) = front_of p (drop there.0 e) there.2 in
    record { before = take there.0 e; run = r.run; after = r.after; whole = sym (take-append-drop there.0 e) ∙ ap (λ q. take there.0 e ++ q) r.whole; exact = r.exact }

-- ---- a segment of the pattern

-- a segment after some parts, and the symbols that are left
pub record IsSegment {R : Type 0} (p : List Part) (symbols : List R) (from at len : ℕ) (left segment : List Part) (rest : List R) : Type 0 where
  pub left_is : left ≡ drop from p
  pub rest_is : rest ≡ drop at symbols
  pub len_is : len ≡ segment_len left
  pub segment_is : segment ≡ take len left

module _ {R : Type 0} (f : R → Name) (p : List Part) (symbols : List R) (from at len : ℕ) (left segment : List Part) (rest : List R)
    (is : IsSegment p symbols from at len left segment rest) (goes : GoesOn p (drop from p) (map f symbols) (drop at (map f symbols))) where
  same : segment ≡ take (segment_len (drop from p)) (drop from p)
  same = is.segment_is ∙ (ap (λ n. take n left) is.len_is ∙ ap (λ l. take (segment_len l) l) is.left_is)

  symbols_are : map f rest ≡ drop at (map f symbols)
  symbols_are = ap (map f) is.rest_is ∙ sym (drop-map f at symbols)

  len_here : len ≡ segment_len (drop from p)
  len_here = is.len_is ∙ ap segment_len is.left_is

  -- if the segment matches nowhere, the pattern does not match
  pub no_match : IsFirstMatch segment (map f rest) None → IsTrue false ↔ Matches (map part_view p) (map f symbols)
  no_match none = (
    λ t. absurd (both_ways false refl t),
    λ m. absurd (none_found p (map f symbols) from at goes segment same (subst (λ e. IsFirstMatch segment e None) symbols_are none) (somewhere_of p (map f symbols) m)),
  )

  module _ (index : ℕ) (first : IsFirstMatch segment (map f rest) (Some index)) where
    first_is : IsFirstMatch segment (drop at (map f symbols)) (Some index)
    first_is = subst (λ e. IsFirstMatch segment e (Some index)) symbols_are first

    -- if the segment matches and is the last one, the pattern matches
    pub last_match : len ≡ length left → IsTrue true ↔ Matches (map part_view p) (map f symbols)
    last_match all =
        let left_len = ap length is.left_is in
        let here = len_here in
        (λ _. match_of p (map f symbols) (all_found p (map f symbols) from at goes index segment same first_is (omega (arith, all, left_len, here))), λ _. refl)

    -- if the segment matches and is not the last one, a `$*` follows it, and the search continues
    -- after both
    pub next_segment : (len ≡ length left → ⊥) → len ≤ length left
        → GoesOn p (drop (from + (len + 1)) p) (map f symbols) (drop (at + (index + len)) (map f symbols))
    next_segment more within =
        let left_len = ap length is.left_is in
        let here = len_here in
        let e : List Name = map f symbols in
        let on : GoesOn p (drop (from + (segment_len (drop from p) + 1)) p) e (drop (at + (index + segment_len (drop from p))) e)
        = goes_past p e from at goes index segment same first_is (omega (arith, more, within, left_len, here)) in
        subst (λ n. GoesOn p (drop (from + (n + 1)) p) e (drop (at + (index + n)) e)) (sym here) on

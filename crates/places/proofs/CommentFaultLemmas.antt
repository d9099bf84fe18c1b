-- The runs before a run are those of the text before it, and the kind of a comment fault.
use Rattle.places.proofs.Words.{◌≡◌, ℕ, zero, suc, ◌+◌, ◌-◌, ◌<◌, ◌≤◌, Bool, true, false, cond, List, [], ◌∷◌, ◌++◌, length, take, take-take, drop, get_or, Option, Some, None, Ok, Err, refl, sym, ◌∙◌, ap, subst, inl, inr, arith, append_assoc, cases_lt, length-take, get_or-drop, get_or-take, Span, is_white, is_empty_or_starts_white, with_byte, runs_from, runs, word, opener, closer, name_eq, SplitsInto, IsStrayCloser, IsNestedOpener, IsUnclosed, IsCommentFaultOfRuns, scan, scan-split, scan-stops, outside, inside, IsNestedIn}

-- ---- the runs before a run

-- each of the runs ends at most at n
abbrev EndWithin : ℕ → List Span → Type 0
EndWithin n [] = Unit {0}
EndWithin n (s ∷ spans) = (s.end ≤ n) × EndWithin n spans

ends_more : (n m : ℕ) (spans : List Span) → n ≡ m → EndWithin n spans → EndWithin m spans
ends_more n m spans e h = subst (λ k. EndWithin k spans) e h

ends_byte : (at n : ℕ) (t : Bool) (spans : List Span) → at + 1 ≤ n → EndWithin n spans → EndWithin n (with_byte at t spans)
ends_byte at n true spans room h = (room, h)
ends_byte at n false [] room h = (room, h)
ends_byte at n false (s ∷ spans) room h = h

-- the runs of a text end within it
ends_within : (at : ℕ) (bytes : List ℕ) → EndWithin (at + length bytes) (runs_from at bytes)
ends_within at [] = tt
ends_within at (b ∷ bytes) =
    by (is_white b) (ends_more (at + 1 + length bytes) (at + length (b ∷ bytes)) (runs_from (at + 1) bytes) (omega arith) (ends_within (at + 1) bytes))
  where
    by : (t : Bool) → EndWithin (at + length (b ∷ bytes)) (runs_from (at + 1) bytes)
        → EndWithin (at + length (b ∷ bytes)) (cond t (runs_from (at + 1) bytes) (with_byte at (is_empty_or_starts_white bytes) (runs_from (at + 1) bytes)))
    by true rest = rest
    by false rest = ends_byte at (at + length (b ∷ bytes)) (is_empty_or_starts_white bytes) (runs_from (at + 1) bytes) (omega arith) rest

-- each of the runs begins at n or later
abbrev BeginFrom : ℕ → List Span → Type 0
BeginFrom n [] = Unit {0}
BeginFrom n (s ∷ spans) = (n ≤ s.start) × BeginFrom n spans

begins_less : (n m : ℕ) (spans : List Span) → n ≤ m → BeginFrom m spans → BeginFrom n spans
begins_less n m [] few h = tt
begins_less n m (s ∷ spans) few h = (omega (arith, h.0), begins_less n m spans few h.1)

begins_byte : (at : ℕ) (t : Bool) (spans : List Span) → BeginFrom at spans → BeginFrom at (with_byte at t spans)
begins_byte at true spans h = (omega arith, h)
begins_byte at false [] h = (omega arith, h)
begins_byte at false (s ∷ spans) h = (omega arith, h.1)

begins_from : (at : ℕ) (bytes : List ℕ) → BeginFrom at (runs_from at bytes)
begins_from at [] = tt
begins_from at (b ∷ bytes) = by (is_white b) (begins_less at (at + 1) (runs_from (at + 1) bytes) (omega arith) (begins_from (at + 1) bytes))
  where
    by : (t : Bool) → BeginFrom at (runs_from (at + 1) bytes) → BeginFrom at (cond t (runs_from (at + 1) bytes) (with_byte at (is_empty_or_starts_white bytes) (runs_from (at + 1) bytes)))
    by true rest = rest
    by false rest = begins_byte at (is_empty_or_starts_white bytes) (runs_from (at + 1) bytes) rest

begins_at : (at : ℕ) (before rest : List Span) (s : Span) → BeginFrom at (before ++ s ∷ rest) → at ≤ s.start
begins_at at [] rest s h = h.0
begins_at at (x ∷ before) rest s h = begins_at at before rest s h.1

-- the beginning of a text ends a word before it as the text does
front_starts : (k : ℕ) (bytes : List ℕ) → is_empty_or_starts_white bytes ≡ true → is_empty_or_starts_white (take k bytes) ≡ true
front_starts zero bytes h = refl
front_starts (suc k) [] h = h
front_starts (suc k) (b ∷ bytes) h = h

-- .. also where it has a run
front_shows : (at k : ℕ) (bytes : List ℕ) (s : Span) (spans : List Span) → is_empty_or_starts_white bytes ≡ false → runs_from at (take k bytes) ≡ s ∷ spans → is_empty_or_starts_white (take k bytes) ≡ false
front_shows at zero bytes s spans h e = cc
front_shows at (suc k) [] s spans h e = h
front_shows at (suc k) (b ∷ bytes) s spans h e = h

-- a visible byte in front of a text whose beginning has the runs before the run s
module _ (at : ℕ) (bytes : List ℕ) (s : Span) (rest : List Span) where
  front_byte : (t : Bool) (spans : List Span) → is_empty_or_starts_white bytes ≡ t
      → ((before : List Span) → spans ≡ before ++ s ∷ rest → runs_from (at + 1) (take (s.start - (at + 1)) bytes) ≡ before)
      → (x : Span) (before : List Span) → with_byte at t spans ≡ x ∷ (before ++ s ∷ rest)
      → with_byte at (is_empty_or_starts_white (take (s.start - (at + 1)) bytes)) (runs_from (at + 1) (take (s.start - (at + 1)) bytes)) ≡ x ∷ before
  front_byte true spans e known x before whole =
      let here = known before (let w = whole in cc) in
      let starts = front_starts (s.start - (at + 1)) bytes e in
      rw (starts, here) (let w = whole in cc)
  front_byte false [] e known x before whole = absurd (none before (let w = whole in cc))
    where
      none : (before : List Span) → ◌≡◌ {A = List Span} [] (before ++ s ∷ rest) → ⊥
      none [] bad = cc
      none (y ∷ before) bad = cc
  front_byte false (r ∷ spans) e known x before whole =
      let here = known (r ∷ before) (let w = whole in cc) in
      let shows = front_shows (at + 1) (s.start - (at + 1)) bytes r before e here in
      rw (shows, here) (let w = whole in cc)

-- the first run begins where a visible byte in front is ..
first_start : (at : ℕ) (t : Bool) (spans : List Span) (s : Span) (rest : List Span) → with_byte at t spans ≡ s ∷ rest → s.start ≡ at
first_start at true spans s rest w = let same : record { start = at; end = at + 1 } ≡ s = cc in sym (ap (λ (r : Span). r.start) same)
first_start at false [] s rest w = let same : record { start = at; end = at + 1 } ≡ s = cc in sym (ap (λ (r : Span). r.start) same)
first_start at false (r ∷ spans) s rest w = let same : record { start = at; end = r.end } ≡ s = cc in sym (ap (λ (r : Span). r.start) same)

-- .. and each other run later
later_run : (at : ℕ) (t : Bool) (spans : List Span) → BeginFrom (at + 1) spans → (x s : Span) (front rest : List Span) → with_byte at t spans ≡ x ∷ (front ++ s ∷ rest) → at + 1 ≤ s.start
later_run at true spans h x s front rest w = let tails : spans ≡ front ++ s ∷ rest = cc in begins_at (at + 1) front rest s (subst (BeginFrom (at + 1)) tails h)
later_run at false [] h x s front rest w = let tails : [] ≡ front ++ s ∷ rest = cc in begins_at (at + 1) front rest s (subst (BeginFrom (at + 1)) tails tt)
later_run at false (r ∷ spans) h x s front rest w = let tails : spans ≡ front ++ s ∷ rest = cc in begins_at (at + 1) front rest s (subst (BeginFrom (at + 1)) tails h.1)

-- the runs before a run of a text are those of the text before it
runs_before : (at : ℕ) (bytes : List ℕ) (front rest : List Span) (s : Span) → runs_from at bytes ≡ front ++ s ∷ rest → runs_from at (take (s.start - at) bytes) ≡ front
runs_before at [] [] rest s whole = cc
runs_before at [] (x ∷ front) rest s whole = cc
runs_before at (b ∷ bytes) front rest s whole = by (is_white b) refl front whole (λ before e. runs_before (at + 1) bytes before rest s e)
  where
    one_more : at + 1 ≤ s.start → s.start - at ≡ suc (s.start - (at + 1))
    one_more h = omega (arith, h)

    by : (t : Bool) → is_white b ≡ t → (before : List Span) → runs_from at (b ∷ bytes) ≡ before ++ s ∷ rest
        → ((before : List Span) → runs_from (at + 1) bytes ≡ before ++ s ∷ rest → runs_from (at + 1) (take (s.start - (at + 1)) bytes) ≡ before)
        → runs_from at (take (s.start - at) (b ∷ bytes)) ≡ before
    by true e before w known =
        let same : runs_from (at + 1) bytes ≡ before ++ s ∷ rest = (rw e at w) in
        let later = begins_at (at + 1) before rest s (subst (BeginFrom (at + 1)) same (begins_from (at + 1) bytes)) in
        rw (one_more later) (rw e (known before same))
    by false e [] w known =
        let same : with_byte at (is_empty_or_starts_white bytes) (runs_from (at + 1) bytes) ≡ s ∷ rest = (rw e at w) in
        let start = first_start at (is_empty_or_starts_white bytes) (runs_from (at + 1) bytes) s rest same in
        let none : s.start - at ≡ 0 = omega (arith, start) in
        rw none refl
    by false e (x ∷ before) w known =
        let same : with_byte at (is_empty_or_starts_white bytes) (runs_from (at + 1) bytes) ≡ x ∷ (before ++ s ∷ rest) = (rw e at w) in
        let later = later_run at (is_empty_or_starts_white bytes) (runs_from (at + 1) bytes) (begins_from (at + 1) bytes) x s before rest same in
        rw (one_more later) (rw e (front_byte at bytes s rest (is_empty_or_starts_white bytes) (runs_from (at + 1) bytes) refl known x before same))

-- ---- a scan of the text before an offset

-- bytes of the beginning of a text
window : (start k n : ℕ) (text : List ℕ) → start + k ≤ n → take k (drop start (take n text)) ≡ take k (drop start text)
window zero k n text h = take-take k n text (omega (arith, h))
window (suc start) k zero text h = absurd (omega (arith, h))
window (suc start) k (suc n) [] h = refl
window (suc start) k (suc n) (b ∷ text) h = window start k n text (omega (arith, h))

-- the word of a run that ends within the beginning of the text
front_word : (n : ℕ) (text : List ℕ) (s : Span) → s.end ≤ length (take n text) → word (take n text) s ≡ word text s
front_word n text s h = elim (cases_lt s.end s.start) [
  | inl less ↦ (let none : s.end - s.start ≡ 0 = omega (arith, less) in rw none refl)
  | inr more ↦ window s.start (s.end - s.start) n text (omega (arith, more, h, length-take n text))
]

front_scan : (n : ℕ) (text : List ℕ) (spans : List Span) (open_at : Option ℕ) → EndWithin (length (take n text)) spans → scan (take n text) spans open_at ≡ scan text spans open_at
front_scan n text [] None h = refl
front_scan n text [] (Some offset) h = refl
front_scan n text (s ∷ spans) None h =
    ap (λ w. outside (name_eq w opener) (name_eq w closer) s (scan (take n text) spans (Some s.start)) (scan (take n text) spans None)) (front_word n text s h.0)
    ∙ (ap (λ r. outside (name_eq (word text s) opener) (name_eq (word text s) closer) s r (scan (take n text) spans None)) (front_scan n text spans (Some s.start) h.1)
    ∙ ap (outside (name_eq (word text s) opener) (name_eq (word text s) closer) s (scan text spans (Some s.start))) (front_scan n text spans None h.1))
front_scan n text (s ∷ spans) (Some offset) h =
    ap (λ w. inside (name_eq w opener) (name_eq w closer) s (scan (take n text) spans None) (scan (take n text) spans (Some offset))) (front_word n text s h.0)
    ∙ (ap (λ r. inside (name_eq (word text s) opener) (name_eq (word text s) closer) s r (scan (take n text) spans (Some offset))) (front_scan n text spans None h.1)
    ∙ ap (inside (name_eq (word text s) opener) (name_eq (word text s) closer) s (scan text spans None)) (front_scan n text spans (Some offset) h.1))

-- ---- the kind of a fault

-- a `$)` at the offset has 41 as its second byte
pub stray_byte : (text : List ℕ) (spans : List Span) (offset : ℕ) → IsStrayCloser text spans offset → get_or text (offset + 1) 0 ≡ 41
stray_byte text spans offset is =
    let s = is.at in
    let k : ℕ = s.end - s.start in
    let long : length (take k (drop s.start text)) ≡ 2 = ap length is.closes in
    let two : 1 < k = omega (arith, long, length-take k (drop s.start text)) in
    let second : get_or (take k (drop s.start text)) 1 0 ≡ 41 = ap (λ w. get_or w 1 0) is.closes in
    ap (λ n. get_or text (n + 1) 0) (sym is.place) ∙ (sym (get_or-drop s.start text 1 0) ∙ (sym (get_or-take k (drop s.start text) 1 0 two) ∙ second))

module _ (text : List ℕ) (offset : ℕ) where
  -- the runs before a run that begins at the offset are those of the text before the offset
  runs_front : (before rest : List Span) (s : Span) → runs text ≡ before ++ s ∷ rest → s.start ≡ offset → runs (take offset text) ≡ before
  runs_front before rest s whole place =
      let none : s.start - 0 ≡ offset = omega (arith, place) in
      ap (λ n. runs_from 0 (take n text)) (sym none) ∙ runs_before 0 text before rest s whole

  -- the text before the offset is scanned as these runs of the whole text are
  same_scan : (before : List Span) → runs (take offset text) ≡ before → scan (take offset text) (runs (take offset text)) None ≡ scan text before None
  same_scan before is = front_scan offset text (runs (take offset text)) None
      (ends_more (0 + length (take offset text)) (length (take offset text)) (runs (take offset text)) (omega arith) (ends_within 0 (take offset text)))
      ∙ ap (λ r. scan text r None) is

  -- before a `$(` inside a comment, the text has a comment that is not closed
  nested_before : (fault : IsNestedOpener text (runs text) offset) → scan (take offset text) (runs (take offset text)) None ≡ Err fault.outer.start
  nested_before fault =
      let whole : runs text ≡ (fault.before ++ fault.outer ∷ fault.inside) ++ fault.at ∷ fault.rest = fault.whole ∙ sym (append_assoc fault.before (fault.outer ∷ fault.inside) (fault.at ∷ fault.rest)) in
      let open_comment : IsUnclosed text (fault.before ++ fault.outer ∷ fault.inside) fault.outer.start = record {
        before = fault.before;
        tokens = fault.tokens;
        at = fault.outer;
        inside = fault.inside;
        whole = refl;
        split = fault.split;
        opens = fault.opens;
        plain = fault.plain;
        place = refl;
      } in
      same_scan (fault.before ++ fault.outer ∷ fault.inside) (runs_front (fault.before ++ fault.outer ∷ fault.inside) fault.rest fault.at whole fault.place)
      ∙ scan-stops text (fault.before ++ fault.outer ∷ fault.inside) fault.outer.start (inr (inr open_comment))

  -- before a `$(` that is never closed, the text splits into tokens
  unclosed_before : (fault : IsUnclosed text (runs text) offset) → scan (take offset text) (runs (take offset text)) None ≡ Ok fault.tokens
  unclosed_before fault =
      same_scan fault.before (runs_front fault.before fault.inside fault.at fault.whole fault.place) ∙ scan-split text fault.before fault.tokens fault.split

  -- if the text before the offset splits into tokens, a comment begins there and is never closed
  pub unclosed_is : (tokens : List Span) → IsCommentFaultOfRuns text (runs text) offset → (get_or text (offset + 1) 0 ≡ 41 → ⊥) → SplitsInto (take offset text) (runs (take offset text)) tokens → IsUnclosed text (runs text) offset
  unclosed_is tokens (inl stray) other split = absurd (other (stray_byte text (runs text) offset stray))
  unclosed_is tokens (inr (inl nested)) other split =
      let e = nested_before nested in
      let f = scan-split (take offset text) (runs (take offset text)) tokens split in cc
  unclosed_is tokens (inr (inr unclosed)) other split = unclosed

  -- if the text before the offset has a comment fault, a comment that begins there is not closed
  pub nested_is : (outer : ℕ) → IsCommentFaultOfRuns text (runs text) offset → (get_or text (offset + 1) 0 ≡ 41 → ⊥) → IsCommentFaultOfRuns (take offset text) (runs (take offset text)) outer → IsNestedIn text (runs text) offset outer
  nested_is outer (inl stray) other before = absurd (other (stray_byte text (runs text) offset stray))
  nested_is outer (inr (inl nested)) other before =
      let e = nested_before nested in
      let f = scan-stops (take offset text) (runs (take offset text)) outer before in
      let same : nested.outer.start ≡ outer = cc in
      (nested, same)
  nested_is outer (inr (inr unclosed)) other before =
      let e = unclosed_before unclosed in
      let f = scan-stops (take offset text) (runs (take offset text)) outer before in cc

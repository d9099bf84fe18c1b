-- A walk that can skip passes over runs that do not begin with `$`.
use Rattle.places.proofs.Words.{◌≡◌, ℕ, zero, suc, ◌+◌, ◌-◌, ◌<◌, ◌≤◌, Bool, true, false, cond, List, [], ◌∷◌, ◌++◌, length, take, drop, Some, None, refl, ◌∙◌, ap, arith, eqb, get_or, sym, drop-drop, get_or-drop, get_or-take, length-drop, take-append-drop, Span, Name, is_white, name_eq, runs_from, is_empty_or_starts_white, with_byte, word, runs_after, closer, opener, WalkState, Inside, Outside, ends_statement, CanSkip, SkipsRuns, walk_over}
use Rattle.std.proofs.lemmas.List.{length-take}

-- ---- words that do not begin with `$`

no_dollar : (b : ℕ) → (b ≡ 36 → ⊥) → eqb b 36 ≡ false
no_dollar b differs = by (eqb b 36) refl
  where
    by : (t : Bool) → eqb b 36 ≡ t → t ≡ false
    by true e = absurd (differs (grind (arith, e)))
    by false e = refl

module _ (w : Name) (differs : get_or w 0 0 ≡ 36 → ⊥) where
  no_opener : name_eq w opener ≡ false
  no_opener = by w differs
    where
      by : (v : Name) → (get_or v 0 0 ≡ 36 → ⊥) → name_eq v opener ≡ false
      by [] d = refl
      by (b ∷ v) d = rw (no_dollar b d) refl

  no_closer : name_eq w closer ≡ false
  no_closer = by w differs
    where
      by : (v : Name) → (get_or v 0 0 ≡ 36 → ⊥) → name_eq v closer ≡ false
      by [] d = refl
      by (b ∷ v) d = rw (no_dollar b d) refl

  no_end : ends_statement w ≡ false
  no_end = by w differs
    where
      by : (v : Name) → (get_or v 0 0 ≡ 36 → ⊥) → ends_statement v ≡ false
      by [] d = refl
      by (b ∷ v) d = rw (no_dollar b d) refl

module _ (text : List ℕ) where
  -- if the byte at the start of a span is not `$`, its word does not begin with `$`
  first_byte : (s : Span) → (get_or text s.start 0 ≡ 36 → ⊥) → get_or (word text s) 0 0 ≡ 36 → ⊥
  first_byte s differs = by (s.end - s.start)
    where
      by : (n : ℕ) → get_or (take n (drop s.start text)) 0 0 ≡ 36 → ⊥
      by zero e = cc
      by (suc n) e =
          let some : 0 < suc n = omega arith in
          let same : s.start + 0 ≡ s.start = omega arith in
          differs (ap (λ k. get_or text k 0) (sym same) ∙ (sym (get_or-drop s.start text 0 0) ∙ (sym (get_or-take (suc n) (drop s.start text) 0 0 some) ∙ e)))

  -- one run that does not begin with `$`
  pass_run : (walk : WalkState) → CanSkip walk → (s : Span) (spans : List Span) → (get_or text s.start 0 ≡ 36 → ⊥) → walk_over text walk (s ∷ spans) ≡ walk_over text walk spans
  pass_run (Inside start begins) skips s spans differs =
      ap (λ b. walk_over text (cond b (Outside (Some (record { start = start; end = s.start })) begins) (Inside start begins)) spans) (no_closer (word text s) (first_byte s differs))
  pass_run (Outside None begins) skips s spans differs =
      let d = first_byte s differs in
      let w : Name = word text s in
      ap (λ b. cond b [] (cond begins (None ∷ []) []) ++ walk_over text (cond b (Inside s.end begins) (Outside None (ends_statement w))) spans) (no_opener w d)
      ∙ (ap (λ c. cond c (None ∷ []) [] ++ walk_over text (Outside None (ends_statement w)) spans) skips
      ∙ ap (λ c. walk_over text (Outside None c) spans) (no_end w d ∙ sym skips))
  pass_run (Outside (Some last) begins) skips s spans differs = absurd skips

-- ---- runs up to a white byte

abbrev pub EndsWhite : List ℕ → Type 0
EndsWhite [] = Unit {0}
EndsWhite (b ∷ []) = is_white b ≡ true
EndsWhite (b ∷ c ∷ bytes) = EndsWhite (c ∷ bytes)

ends_white : (i : ℕ) (bytes : List ℕ) → i < length bytes → is_white (get_or bytes i 0) ≡ true → EndsWhite (take (suc i) bytes)
ends_white i [] inside h = absurd (omega (arith, inside))
ends_white zero (b ∷ bytes) inside h = h
ends_white (suc i) (b ∷ []) inside h = absurd (omega (arith, inside))
ends_white (suc i) (b ∷ c ∷ bytes) inside h = ends_white i (c ∷ bytes) (omega (arith, inside)) h

-- there is a run, and the first one begins at the offset
abbrev BeginsAt : ℕ → List Span → Type 0
BeginsAt at [] = ⊥
BeginsAt at (s ∷ spans) = s.start ≡ at

begins_with : (at : ℕ) (t : Bool) (spans : List Span) → BeginsAt at (with_byte at t spans)
begins_with at true spans = refl
begins_with at false [] = refl
begins_with at false (s ∷ spans) = refl

module _ (text : List ℕ) (walk : WalkState) (skips : CanSkip walk) where
  -- a visible byte in front that is not `$` is passed over, with the run that it lengthens if that
  -- run did not begin with `$`
  pass_byte : (at : ℕ) (t : Bool) (spans : List Span) → (get_or text at 0 ≡ 36 → ⊥) → (t ≡ false → BeginsAt (at + 1) spans) → (get_or text (at + 1) 0 ≡ 36 → t ≡ false → ⊥)
      → walk_over text walk (with_byte at t spans) ≡ walk_over text walk spans
  pass_byte at true spans differs first next = pass_run text walk skips (record { start = at; end = at + 1 }) spans differs
  pass_byte at false [] differs first next = absurd (first refl)
  pass_byte at false (s ∷ spans) differs first next =
      pass_run text walk skips (record { start = at; end = s.end }) spans differs
      ∙ sym (pass_run text walk skips s spans (λ e. next (ap (λ k. get_or text k 0) (sym (first refl)) ∙ e) refl))

  abbrev NoDollar : ℕ → ℕ → Type 0
  NoDollar low high = (k : ℕ) → low ≤ k → k < high → get_or text k 0 ≡ 36 → ⊥

  begins_shown : (at c : ℕ) (bytes : List ℕ) → is_white c ≡ false → BeginsAt at (runs_from at (c ∷ bytes))
  begins_shown at c bytes e = rw e (begins_with at (is_empty_or_starts_white bytes) (runs_from (at + 1) bytes))

  -- one more byte in front
  pass_step : (at b c : ℕ) (front rest : List ℕ) (t : Bool) → is_white b ≡ t → NoDollar at (at + length (b ∷ c ∷ front))
      → walk_over text walk (runs_from (at + 1) ((c ∷ front) ++ rest)) ≡ walk_over text walk (runs_from (at + 1 + length (c ∷ front)) rest)
      → walk_over text walk (runs_from at ((b ∷ c ∷ front) ++ rest)) ≡ walk_over text walk (runs_from (at + length (b ∷ c ∷ front)) rest)
  pass_step at b c front rest true e none more =
      let same : at + 1 + length (c ∷ front) ≡ at + length (b ∷ c ∷ front) = omega arith in
      rw e (more ∙ ap (λ n. walk_over text walk (runs_from n rest)) same)
  pass_step at b c front rest false e none more =
      let same : at + 1 + length (c ∷ front) ≡ at + length (b ∷ c ∷ front) = omega arith in
      rw e (pass_byte at (is_white c) (runs_from (at + 1) ((c ∷ front) ++ rest)) (none at (omega arith) (omega arith)) (begins_shown (at + 1) c (front ++ rest))
      (λ is shown. none (at + 1) (omega arith) (omega arith) is)
      ∙ (more ∙ ap (λ n. walk_over text walk (runs_from n rest)) same))

  -- bytes that end white and have no `$` are passed over
  pass_bytes : (at : ℕ) (front rest : List ℕ) → EndsWhite front → NoDollar at (at + length front)
      → walk_over text walk (runs_from at (front ++ rest)) ≡ walk_over text walk (runs_from (at + length front) rest)
  pass_bytes at [] rest white none = let same : at ≡ at + 0 = omega arith in ap (λ n. walk_over text walk (runs_from n rest)) same
  pass_bytes at (b ∷ []) rest white none = rw white refl
  pass_bytes at (b ∷ c ∷ front) rest white none =
      pass_step at b c front rest (is_white b) refl none
      (pass_bytes (at + 1) (c ∷ front) rest white (λ k low high. none k (omega (arith, low)) (omega (arith, high))))

-- ---- the offset that the code finds

module _ (text : List ℕ) (at : ℕ) (start : at ≤ length text) where
  skips_none : SkipsRuns text at (at + 0)
  skips_none =
      let same : at ≡ at + 0 = omega arith in
      record { order = omega arith; within = omega (arith, start); same = λ walk skips. ap (λ n. walk_over text walk (runs_after text n)) same }

  passes_some : (i : ℕ) → at + suc i ≤ length text → is_white (get_or text (at + i) 0) ≡ true → ((k : ℕ) → at ≤ k → k < at + suc i → get_or text k 0 ≡ 36 → ⊥) → SkipsRuns text at (at + suc i)
  passes_some i within white none =
      let rest = drop at text in
      let long : length rest + at ≡ length text = omega (arith, length-drop at text, start) in
      let front = take (suc i) rest in
      let wide : length front ≡ suc i = omega (arith, length-take (suc i) rest, long) in
      let last : is_white (get_or rest i 0) ≡ true = ap is_white (get_or-drop at text i 0) ∙ white in
      record {
        order = omega arith;
        within = within;
        same = λ walk skips.
            ap (λ bytes. walk_over text walk (runs_from at bytes)) (sym (take-append-drop (suc i) rest))
            ∙ (pass_bytes text walk skips at front (drop (suc i) rest) (ends_white i rest (omega (arith, long, within)) last) (λ k low high. none k low (omega (arith, high, wide)))
            ∙ (ap (λ n. walk_over text walk (runs_from (at + n) (drop (suc i) rest))) wide
            ∙ ap (λ bytes. walk_over text walk (runs_from (at + suc i) bytes)) (drop-drop (suc i) at text)));
      }

  -- up to after a white byte before which there is no `$`
  pub skips_runs : (n plain : ℕ) (rest part : List ℕ) → rest ≡ drop at text → part ≡ take plain rest → plain ≤ length rest → ((k : ℕ) → k < plain → get_or rest k 0 ≡ 36 → ⊥)
      → n ≤ length part → (0 < n → is_white (get_or part (n - 1) 0) ≡ true) → SkipsRuns text at (at + n)
  skips_runs zero plain rest part whole front few none within white = skips_none
  skips_runs (suc i) plain rest part whole front few none within white =
      let long : length rest + at ≡ length text = omega (arith, length-drop at text, ap length whole, start) in
      let wide : length part ≡ plain = omega (arith, ap length front, length-take plain rest, few) in
      let same : suc i - 1 ≡ i = omega arith in
      let inside : i < plain = omega (arith, within, wide) in
      let byte_is : get_or part i 0 ≡ get_or text (at + i) 0
      = ap (λ l. get_or l i 0) front ∙ (get_or-take plain rest i 0 inside ∙ (ap (λ l. get_or l i 0) whole ∙ get_or-drop at text i 0)) in
      passes_some i (omega (arith, within, wide, few, long)) (sym (ap is_white byte_is) ∙ (ap (λ k. is_white (get_or part k 0)) (sym same) ∙ white (omega arith)))
      (λ k low high is.
      let back : at + (k - at) ≡ k = omega (arith, low) in
      none (k - at) (omega (arith, low, high, inside))
      (ap (λ l. get_or l (k - at) 0) whole ∙ (get_or-drop at text (k - at) 0 ∙ (ap (λ j. get_or text j 0) back ∙ is))))

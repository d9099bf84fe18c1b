-- Runs without a `$` are plain, and the runs of bytes that end with a white byte do not depend on
-- the bytes that follow.
use Rattle.mm_lex.proofs.Prelude.{◌≡◌, ℕ, ◌+◌, ◌-◌, ◌<◌, ◌≤◌, suc, zero, Bool, true, false, List, [], ◌∷◌, ◌++◌, length, take, drop, refl, sym, ◌∙◌, ap, arith, get_or, subst, eqb, eq-eqb, append-nil, get_or-take, get_or-drop, length-take, length-drop, take-append-drop, drop-drop, drop-length, and_from, Nowhere, NoneBefore, Passes, is_byte, Span, Name, is_white, is_empty_or_starts_white, with_byte, runs_from, word, is_plain, AllPlain, runs_after, PassesPlain}

-- ---- where the runs lie

-- the span lies between two places
abbrev Between : ℕ → ℕ → Span → Type 0
Between low high s = (low ≤ s.start) × (s.start < s.end) × (s.end ≤ high)

abbrev AllBetween : ℕ → ℕ → List Span → Type 0
AllBetween low high [] = Unit {0}
AllBetween low high (s ∷ spans) = Between low high s × AllBetween low high spans

-- runs between two places lie between any two places further out
wider : (low lower high higher : ℕ) (spans : List Span) → lower ≤ low → high ≤ higher → AllBetween low high spans → AllBetween lower higher spans
wider low lower high higher [] l h are = tt
wider low lower high higher (s ∷ spans) l h are =
    let here = are.0 in
    ((omega (arith, here.0), here.1, omega (arith, here.2)), wider low lower high higher spans l h are.1)

-- .. and so do runs with a visible byte at the first place in front
between_with : (at high : ℕ) (t : Bool) (spans : List Span) → at + 1 ≤ high → AllBetween (at + 1) high spans → AllBetween at high (with_byte at t spans)
between_with at high true spans room are =
    ((omega arith, omega arith, room), wider (at + 1) at high high spans (omega arith) (omega arith) are)
between_with at high false [] room are = ((omega arith, omega arith, room), tt)
between_with at high false (s ∷ spans) room are =
    let here = are.0 in
    ((omega arith, omega (arith, here.0, here.1), here.2), wider (at + 1) at high high spans (omega arith) (omega arith) are.1)

-- if the runs of some bytes lie where the bytes are, so do the runs with one more byte in front
between_step : (at b : ℕ) (bytes : List ℕ) (t : Bool) → is_white b ≡ t → AllBetween (at + 1) (at + 1 + length bytes) (runs_from (at + 1) bytes)
    → AllBetween at (at + length (b ∷ bytes)) (runs_from at (b ∷ bytes))
between_step at b bytes true e are =
    rw e (wider (at + 1) at (at + 1 + length bytes) (at + length (b ∷ bytes)) (runs_from (at + 1) bytes) (omega arith) (omega arith) are)
between_step at b bytes false e are =
    let same : at + 1 + length bytes ≡ at + length (b ∷ bytes) = omega arith in
    rw e (between_with at (at + length (b ∷ bytes)) (is_empty_or_starts_white bytes) (runs_from (at + 1) bytes) (omega arith)
    (wider (at + 1) (at + 1) (at + 1 + length bytes) (at + length (b ∷ bytes)) (runs_from (at + 1) bytes) (omega arith) (omega arith) are))

-- the runs of some bytes lie where these bytes are
runs_between : (at : ℕ) (bytes : List ℕ) → AllBetween at (at + length bytes) (runs_from at bytes)
runs_between at [] = tt
runs_between at (b ∷ bytes) = between_step at b bytes (is_white b) refl (runs_between (at + 1) bytes)

-- .. with the end of the bytes given
runs_between_to : (at high : ℕ) (bytes : List ℕ) → at + length bytes ≡ high → AllBetween at high (runs_from at bytes)
runs_between_to at high bytes e = let P : ℕ → Type 0 = λ h. AllBetween at h (runs_from at bytes) in subst P e (runs_between at bytes)

-- ---- plain runs

-- a byte other than `$` fails the test for `$`
no_dollar : (b : ℕ) → (b ≡ 36 → ⊥) → eqb b 36 ≡ false
no_dollar b differs = by (eqb b 36) refl
  where
    by : (t : Bool) → eqb b 36 ≡ t → t ≡ false
    by true e = absurd (differs (grind (arith, e)))
    by false e = refl

-- a word that does not begin with `$` is plain
plain_word : (w : Name) → (get_or w 0 0 ≡ 36 → ⊥) → is_plain w ≡ true
plain_word [] differs = refl
plain_word (b ∷ w) differs = rw (no_dollar b differs) refl

-- a run that lies where there is no `$` is plain
plain_span : (text : List ℕ) (low high : ℕ) → high ≤ length text → ((k : ℕ) → low ≤ k → k < high → get_or text k 0 ≡ 36 → ⊥)
    → (s : Span) → Between low high s → is_plain (word text s) ≡ true
plain_span text low high within none s is =
    let some : 0 < s.end - s.start = omega (arith, is.1) in
    let first : get_or (word text s) 0 0 ≡ get_or text s.start 0 = get_or-take (s.end - s.start) (drop s.start text) 0 0 some ∙ (get_or-drop s.start text 0 0 ∙ (let same : s.start + 0 ≡ s.start = omega arith in ap (λ k. get_or text k 0) same)) in
    plain_word (word text s) (λ e. none s.start is.0 (omega (arith, is.1, is.2)) (sym first ∙ e))

-- runs that lie where there is no `$` are plain
plain_spans : (text : List ℕ) (low high : ℕ) → high ≤ length text → ((k : ℕ) → low ≤ k → k < high → get_or text k 0 ≡ 36 → ⊥)
    → (spans : List Span) → AllBetween low high spans → AllPlain text spans
plain_spans text low high within none [] are = refl
plain_spans text low high within none (s ∷ spans) are =
    and_from _ _ (plain_span text low high within none s are.0) (plain_spans text low high within none spans are.1)

-- ---- bytes split off after a white byte

abbrev EndsWhite : List ℕ → Type 0
EndsWhite [] = Unit {0}
EndsWhite (b ∷ []) = is_white b ≡ true
EndsWhite (b ∷ c ∷ bytes) = EndsWhite (c ∷ bytes)

-- the list of runs is not empty
abbrev IsSome : List Span → Type 0
IsSome [] = ⊥
IsSome (s ∷ spans) = Unit {0}

-- a visible byte in front of runs gives a list of runs that is not empty
with_some : (at : ℕ) (t : Bool) (spans : List Span) → IsSome (with_byte at t spans)
with_some at true spans = tt
with_some at false [] = tt
with_some at false (s ∷ spans) = tt

-- bytes that begin with one that is not white have a run
runs_some : (at b : ℕ) (bytes : List ℕ) → is_white b ≡ false → IsSome (runs_from at (b ∷ bytes))
runs_some at b bytes e = rw e (with_some at (is_empty_or_starts_white bytes) (runs_from (at + 1) bytes))

-- a visible byte in front of two lists of runs changes only the first list, which may be empty only
-- if the byte is a run of its own
with_append : (at : ℕ) (t : Bool) (spans more : List Span) → (t ≡ false → IsSome spans) → with_byte at t (spans ++ more) ≡ with_byte at t spans ++ more
with_append at true spans more some = refl
with_append at false [] more some = absurd (some refl)
with_append at false (s ∷ spans) more some = refl

-- if the runs of two joined texts are those of one and then those of the other, so are they with
-- one more byte in front
pub append_step : (at b c : ℕ) (bytes more : List ℕ) (t : Bool) → is_white b ≡ t
    → runs_from (at + 1) ((c ∷ bytes) ++ more) ≡ runs_from (at + 1) (c ∷ bytes) ++ runs_from (at + 1 + length (c ∷ bytes)) more
    → runs_from at ((b ∷ c ∷ bytes) ++ more) ≡ runs_from at (b ∷ c ∷ bytes) ++ runs_from (at + length (b ∷ c ∷ bytes)) more
append_step at b c bytes more true e k =
    let same : at + 1 + length (c ∷ bytes) ≡ at + length (b ∷ c ∷ bytes) = omega arith in
    rw e (k ∙ ap (λ n. runs_from (at + 1) (c ∷ bytes) ++ runs_from n more) same)
append_step at b c bytes more false e k =
    let same : at + 1 + length (c ∷ bytes) ≡ at + length (b ∷ c ∷ bytes) = omega arith in
    rw e (ap (with_byte at (is_white c)) (k ∙ ap (λ n. runs_from (at + 1) (c ∷ bytes) ++ runs_from n more) same)
    ∙ with_append at (is_white c) (runs_from (at + 1) (c ∷ bytes)) (runs_from (at + length (b ∷ c ∷ bytes)) more) (runs_some (at + 1) c bytes))

-- the runs of bytes that end white and of bytes after them are those of the first and then those of
-- the others
runs_append : (at : ℕ) (bytes more : List ℕ) → EndsWhite bytes → runs_from at (bytes ++ more) ≡ runs_from at bytes ++ runs_from (at + length bytes) more
runs_append at [] more ends = let same : at ≡ at + 0 = omega arith in ap (λ n. runs_from n more) same
runs_append at (b ∷ []) more ends = rw ends refl
runs_append at (b ∷ c ∷ bytes) more ends = append_step at b c bytes more (is_white b) refl (runs_append (at + 1) (c ∷ bytes) more ends)

-- bytes up to a white one and with it end white
ends_white : (i : ℕ) (bytes : List ℕ) → i < length bytes → is_white (get_or bytes i 0) ≡ true → EndsWhite (take (suc i) bytes)
ends_white i [] inside h = absurd (omega (arith, inside))
ends_white zero (b ∷ bytes) inside h = h
ends_white (suc i) (b ∷ []) inside h = absurd (omega (arith, inside))
ends_white (suc i) (b ∷ c ∷ bytes) inside h = ends_white i (c ∷ bytes) (omega (arith, inside)) h

-- ---- from one place to another

module _ (text : List ℕ) (at : ℕ) (start : at ≤ length text) where
  -- if no `$` follows, the runs up to the end of the text are plain
  pub plain_rest : ((k : ℕ) → at ≤ k → k < length text → get_or text k 0 ≡ 36 → ⊥) → PassesPlain text at (length text)
  plain_rest none =
      let long : at + length (drop at text) ≡ length text = omega (arith, length-drop at text) in
      let between = runs_between_to at (length text) (drop at text) long in record {
        passed = runs_after text at;
        later = start;
        within = omega arith;
        whole = sym (append-nil (runs_after text at)) ∙ ap (λ r. runs_after text at ++ runs_from (length text) r) (sym (drop-length text));
        plain = plain_spans text at (length text) (omega arith) none (runs_after text at) between;
      }

  -- there are no runs between a place and itself
  plain_none : PassesPlain text at at
  plain_none = record { passed = []; later = omega arith; within = start; whole = refl; plain = refl }

  -- the runs up to a place after a white byte are plain, if there is no `$` before that place
  plain_some : (i : ℕ) → at + suc i ≤ length text → is_white (get_or text (at + i) 0) ≡ true
      → ((k : ℕ) → at ≤ k → k < at + suc i → get_or text k 0 ≡ 36 → ⊥) → PassesPlain text at (at + suc i)
  plain_some i within white none =
      let rest = drop at text in
      let long : length rest + at ≡ length text = omega (arith, length-drop at text) in
      let front = take (suc i) rest in
      let wide : length front ≡ suc i = omega (arith, length-take (suc i) rest, long) in
      let last : is_white (get_or rest i 0) ≡ true = ap is_white (get_or-drop at text i 0) ∙ white in
      let split = runs_append at front (drop (suc i) rest) (ends_white i rest (omega (arith, long)) last) in
      let between = runs_between_to at (at + suc i) front (ap (λ n. at + n) wide) in record {
        passed = runs_from at front;
        later = omega arith;
        within = within;
        whole = ap (runs_from at) (sym (take-append-drop (suc i) rest)) ∙ (split ∙ (ap (λ n. runs_from at front ++ runs_from (at + n) (drop (suc i) rest)) wide
            ∙ ap (λ r. runs_from at front ++ runs_from (at + suc i) r) (drop-drop (suc i) at text)));
        plain = plain_spans text at (at + suc i) within none (runs_from at front) between;
      }

  -- the runs up to a place that is the first or follows a white byte are plain, if there is no `$`
  -- before that place
  pub plain_front : (n : ℕ) → at + n ≤ length text → (0 < n → is_white (get_or text (at + (n - 1)) 0) ≡ true)
      → ((k : ℕ) → at ≤ k → k < at + n → get_or text k 0 ≡ 36 → ⊥) → PassesPlain text at (at + n)
  plain_front zero within white none = let same : at + 0 ≡ at = omega arith in rw same plain_none
  plain_front (suc i) within white none =
      let same : suc i - 1 ≡ i = omega arith in
      plain_some i within (ap (λ k. is_white (get_or text (at + k) 0)) (sym same) ∙ white (omega arith)) none

  -- ---- the result of a search for `$`

  -- a byte of the text after a place, read from the bytes that are left there
  byte_at : (hay : List ℕ) (k : ℕ) → hay ≡ drop at text → at ≤ k → get_or hay (k - at) 0 ≡ get_or text k 0
  byte_at hay k whole later =
      let same : at + (k - at) ≡ k = omega arith in
      ap (λ h. get_or h (k - at) 0) whole ∙ (get_or-drop at text (k - at) 0 ∙ ap (λ j. get_or text j 0) same)

  -- if no `$` is found, the runs up to the end of the text are plain
  pub plain_unfound : (hay : List ℕ) → hay ≡ drop at text → Nowhere (Passes (is_byte 36) hay) 0 (length hay) → PassesPlain text at (length text)
  plain_unfound hay whole nowhere =
      plain_rest (λ k later before is. nowhere (k - at) (omega arith) (omega (arith, ap length whole, length-drop at text)) (eq-eqb (get_or hay (k - at) 0) 36 (byte_at hay k whole later ∙ is)))

  -- if one is found, the runs up to after a white byte before it are plain
  pub plain_found : (dollar n : ℕ) (hay part : List ℕ) → hay ≡ drop at text → part ≡ take (at + dollar - at) (drop at text)
      → NoneBefore (Passes (is_byte 36) hay) 0 (length hay) dollar → n ≤ length part → (0 < n → is_white (get_or part (n - 1) 0) ≡ true) → PassesPlain text at (at + n)
  plain_found dollar n hay part whole front none few white =
      let width : at + dollar - at ≡ dollar = omega arith in
      let long : n ≤ dollar = omega (arith, ap length front, length-take (at + dollar - at) (drop at text)) in
      let room : at + dollar < length text = omega (arith, none.high, ap length whole, length-drop at text) in
      plain_front n (omega arith)
      (λ some. let before : n - 1 < at + dollar - at = omega arith in
      ap is_white (sym (get_or-drop at text (n - 1) 0) ∙ (sym (get_or-take (at + dollar - at) (drop at text) (n - 1) 0 before) ∙ ap (λ l. get_or l (n - 1) 0) (sym front))) ∙ white some)
      (λ k later before is. none.before (k - at) (omega arith) (omega arith) (eq-eqb (get_or hay (k - at) 0) 36 (byte_at hay k whole later ∙ is)))

-- Two joined texts read as the statements of the first and then those of the second, if no word
-- continues from the first into the second: the runs of the joined text are those of the first and
-- then those of the second, runs with the same words are split at the same comments, and two splits
-- join into one.
use Rattle.mm_read.proofs.Words.{◌≡◌, ℕ, ◌+◌, ◌-◌, ◌<◌, suc, Bool, true, false, ◌||◌, if◌then◌else◌, List, [], ◌∷◌, ◌++◌, length, take, drop, Option, Some, None, Ok, Err, refl, list_all, sym, ◌∙◌, ap, arith, subst, true≢false, drop-append_seam, and_from, flat_map-append, drop-drop, map-append, list_all-append, Span, Name, name_eq, is_white, is_allowed, is_empty_or_starts_white, with_byte, runs, runs_from, word, opener, closer, SplitsInto, words, append_step, Outcome, outside, inside, prepend, scan, scan-split, splits_as, split-scan, splits_join, is_shaped, stmt_tokens, tokens_of, HasTokens, joins_no_words}
use Rattle.std.proofs.lemmas.List.{append-nil}
use Rattle.mm_read.specs.Laws as laws

-- ---- the runs of the joined text

-- the last byte of the first text, if it is white or the second text starts white
last_byte : (at b : ℕ) (other : List ℕ) (t : Bool) → is_white b ≡ t → (t || is_empty_or_starts_white other) ≡ true
    → runs_from at (b ∷ other) ≡ runs_from at (b ∷ []) ++ runs_from (at + 1) other
last_byte at b other true e h = rw e refl
last_byte at b other false e h = rw (e, h) refl

runs-joined : (at : ℕ) (text other : List ℕ) → joins_no_words text other ≡ true → runs_from at (text ++ other) ≡ runs_from at text ++ runs_from (at + length text) other
runs-joined at [] other h = let same : at ≡ at + 0 = omega arith in ap (λ n. runs_from n other) same
runs-joined at (b ∷ []) other h = last_byte at b other (is_white b) refl h
runs-joined at (b ∷ c ∷ text) other h = append_step at b c text other (is_white b) refl (runs-joined (at + 1) (c ∷ text) other h)

-- ---- the words of runs, by the bytes alone

abbrev with_first : ℕ → Bool → List Name → List Name
with_first b true ws = (b ∷ []) ∷ ws
with_first b false [] = (b ∷ []) ∷ []
with_first b false (w ∷ ws) = (b ∷ w) ∷ ws

abbrev run_words : List ℕ → List Name
run_words [] = []
run_words (b ∷ bytes) = if is_white b then run_words bytes else with_first b (is_empty_or_starts_white bytes) (run_words bytes)

-- the first of these spans, if there is any, begins at the place
abbrev StartsAt : ℕ → List Span → Type 0
StartsAt at [] = Unit {0}
StartsAt at (s ∷ spans) = (s.start ≡ at) × (at < s.end)

-- the first of these spans, if there is any, ends after the place
abbrev EndsAfter : ℕ → List Span → Type 0
EndsAfter at [] = Unit {0}
EndsAfter at (s ∷ spans) = at < s.end

with-starts : (at : ℕ) (t : Bool) (spans : List Span) → EndsAfter (at + 1) spans → StartsAt at (with_byte at t spans)
with-starts at true spans later = (refl, omega arith)
with-starts at false [] later = (refl, omega arith)
with-starts at false (s ∷ spans) later = (refl, omega (arith, later))

-- if the first span begins at a place, it ends after it
ends_after : (at : ℕ) (spans : List Span) → StartsAt at spans → EndsAfter at spans
ends_after at [] starts = tt
ends_after at (s ∷ spans) starts = starts.1

-- if the first span ends after a place, it ends after the place before
ends_earlier : (at : ℕ) (spans : List Span) → EndsAfter (at + 1) spans → EndsAfter at spans
ends_earlier at [] later = tt
ends_earlier at (s ∷ spans) later = omega (arith, later)

-- the first run ends after the place of the first byte, also with one more byte in front
ends_step : (at b : ℕ) (bytes : List ℕ) (t : Bool) → is_white b ≡ t → EndsAfter (at + 1) (runs_from (at + 1) bytes) → EndsAfter at (runs_from at (b ∷ bytes))
ends_step at b bytes true e later = rw e (ends_earlier at (runs_from (at + 1) bytes) later)
ends_step at b bytes false e later =
    rw e (ends_after at (with_byte at (is_empty_or_starts_white bytes) (runs_from (at + 1) bytes)) (with-starts at (is_empty_or_starts_white bytes) (runs_from (at + 1) bytes) later))

runs-end : (at : ℕ) (bytes : List ℕ) → EndsAfter at (runs_from at bytes)
runs-end at [] = tt
runs-end at (b ∷ bytes) = ends_step at b bytes (is_white b) refl (runs-end (at + 1) bytes)

runs-start : (at : ℕ) (bytes : List ℕ) → is_empty_or_starts_white bytes ≡ false → StartsAt at (runs_from at bytes)
runs-start at [] h = absurd (true≢false h)
runs-start at (b ∷ bytes) h = rw h (with-starts at (is_empty_or_starts_white bytes) (runs_from (at + 1) bytes) (runs-end (at + 1) bytes))

abbrev span_of : ℕ → ℕ → Span
span_of start end = record { start = start; end = end }

module _ (text : List ℕ) (at b : ℕ) (bytes : List ℕ) (here : drop at text ≡ b ∷ bytes) where
  -- the bytes after the first one
  bytes_after : drop (at + 1) text ≡ bytes
  bytes_after = sym (drop-drop 1 at text ∙ ap (λ n. drop n text) (omega arith)) ∙ ap (drop 1) here

  word-one : word text (span_of at (at + 1)) ≡ b ∷ []
  word-one = let one : at + 1 - at ≡ 1 = omega arith in ap (λ n. take n (drop at text)) one ∙ ap (take 1) here

  word-more : (s : Span) → s.start ≡ at + 1 → at + 1 < s.end → word text (span_of at s.end) ≡ b ∷ word text s
  word-more s starts long =
      let one : s.end - at ≡ suc (s.end - (at + 1)) = omega (arith, long) in
      ap (λ n. take n (drop at text)) one
      ∙ (ap (take (suc (s.end - (at + 1)))) here
      ∙ (ap (λ r. b ∷ take (s.end - (at + 1)) r) (sym bytes_after) ∙ ap (λ n. b ∷ take (s.end - n) (drop n text)) (sym starts)))

  words-with : (t : Bool) (spans : List Span) → (t ≡ false → StartsAt (at + 1) spans) → words text (with_byte at t spans) ≡ with_first b t (words text spans)
  words-with true spans starts = ap (λ w. w ∷ words text spans) word-one
  words-with false [] starts = ap (λ w. w ∷ []) word-one
  words-with false (s ∷ spans) starts = ap (λ w. w ∷ words text spans) (word-more s (starts refl).0 (starts refl).1)

  words-step : (t : Bool) → is_white b ≡ t → (rest : List ℕ) → words text (runs_from (at + 1) rest) ≡ run_words rest
      → words text (runs_from at (b ∷ rest)) ≡ run_words (b ∷ rest)
  words-step true e rest k = rw e k
  words-step false e rest k =
      rw e (words-with (is_empty_or_starts_white rest) (runs_from (at + 1) rest) (λ h. runs-start (at + 1) rest h) ∙ ap (with_first b (is_empty_or_starts_white rest)) k)

words-runs : (text more : List ℕ) (at : ℕ) (bytes : List ℕ) → drop at text ≡ bytes ++ more → words text (runs_from at bytes) ≡ run_words bytes
words-runs text more at [] here = refl
words-runs text more at (b ∷ bytes) here =
    words-step text at b (bytes ++ more) here (is_white b) refl bytes (words-runs text more (at + 1) bytes (bytes_after text at b (bytes ++ more) here))

-- ---- runs with the same words

module _ (text other : List ℕ) where
  -- both results are tokens with the same words, or both are faults
  abbrev Alike : Outcome → Outcome → Type 0
  Alike (Ok ts) (Ok us) = words text ts ≡ words other us
  Alike (Ok ts) (Err m) = ⊥
  Alike (Err m) (Ok us) = ⊥
  Alike (Err m) (Err n) = Unit {0}

  module _ (s u : Span) (same : word text s ≡ word other u) where
    -- one more token, with the same word in both texts
    alike_more : (r t : Outcome) → Alike r t → Alike (prepend (s ∷ []) r) (prepend (u ∷ []) t)
    alike_more (Ok ts) (Ok us) are = ap (λ w. w ∷ words text ts) same ∙ ap (λ ws. word other u ∷ ws) are
    alike_more (Ok ts) (Err m) are = are
    alike_more (Err m) (Ok us) are = are
    alike_more (Err m) (Err n) are = tt

    -- outside a comment the results for both texts are alike, whatever the run is
    alike_outside : (a b : Bool) (r t r' t' : Outcome) → Alike r t → Alike r' t' → Alike (outside a b s r r') (outside a b u t t')
    alike_outside true b r t r' t' opened rest = opened
    alike_outside false true r t r' t' opened rest = tt
    alike_outside false false r t r' t' opened rest = alike_more r' t' rest

    -- .. and so are they inside one
    alike_inside : (a b : Bool) (r t r' t' : Outcome) → Alike r t → Alike r' t' → Alike (inside a b s r r') (inside a b u t t')
    alike_inside true b r t r' t' closed rest = tt
    alike_inside false true r t r' t' closed rest = closed
    alike_inside false false r t r' t' closed rest = rest

  -- both scans are inside a comment, or neither is
  abbrev BothOpen : Option ℕ → Option ℕ → Type 0
  BothOpen None None = Unit {0}
  BothOpen (Some m) (Some n) = Unit {0}
  BothOpen None (Some n) = ⊥
  BothOpen (Some m) None = ⊥

  -- the scans of runs with the same words have alike results
  scans_alike : (spans others : List Span) (from at : Option ℕ) → BothOpen from at → words text spans ≡ words other others
      → Alike (scan text spans from) (scan other others at)
  scans_alike [] [] None None state same = refl
  scans_alike [] [] (Some m) (Some n) state same = tt
  scans_alike [] [] None (Some n) state same = absurd state
  scans_alike [] [] (Some m) None state same = absurd state
  scans_alike [] (u ∷ others) from at state same = cc
  scans_alike (s ∷ spans) [] from at state same = cc
  scans_alike (s ∷ spans) (u ∷ others) None None state same =
      let first : word text s ≡ word other u = cc in
      let rest : words text spans ≡ words other others = cc in
      subst (λ w. Alike (scan text (s ∷ spans) None) (outside (name_eq w opener) (name_eq w closer) u (scan other others (Some u.start)) (scan other others None))) first
      (alike_outside s u first (name_eq (word text s) opener) (name_eq (word text s) closer) _ _ _ _
      (scans_alike spans others (Some s.start) (Some u.start) tt rest) (scans_alike spans others None None tt rest))
  scans_alike (s ∷ spans) (u ∷ others) (Some m) (Some n) state same =
      let first : word text s ≡ word other u = cc in
      let rest : words text spans ≡ words other others = cc in
      subst (λ w. Alike (scan text (s ∷ spans) (Some m)) (inside (name_eq w opener) (name_eq w closer) u (scan other others None) (scan other others (Some n)))) first
      (alike_inside s u first (name_eq (word text s) opener) (name_eq (word text s) closer) _ _ _ _
      (scans_alike spans others None None tt rest) (scans_alike spans others (Some m) (Some n) tt rest))
  scans_alike (s ∷ spans) (u ∷ others) None (Some n) state same = absurd state
  scans_alike (s ∷ spans) (u ∷ others) (Some m) None state same = absurd state

  -- these spans split into tokens with these words
  abbrev IsSplitAs : List Span → List Name → Type 0
  IsSplitAs others ws = (us : List Span) × SplitsInto other others us × (words other us ≡ ws)

  -- if the runs of one text split into tokens, runs of the other with the same words split into
  -- tokens with the same words
  same_split_words : (spans tokens others : List Span) → SplitsInto text spans tokens → words text spans ≡ words other others → IsSplitAs others (words text tokens)
  same_split_words spans tokens others split same =
      by (scan other others None) refl (subst (λ r. Alike r (scan other others None)) (scan-split text spans tokens split) (scans_alike spans others None None tt same))
    where
      by : (r : Outcome) → scan other others None ≡ r → Alike (Ok tokens) r → IsSplitAs others (words text tokens)
      by (Ok us) e are = (us, split-scan other others us e, sym are)
      by (Err n) e are = absurd are

-- ---- the joined text

module _ (text other : List ℕ) (apart : joins_no_words text other ≡ true) where
  abbrev both : List ℕ
  both = text ++ other

  abbrev later : List Span
  later = runs_from (length text) other

  -- the words of the runs of the first text are the same in the joined text
  front : words text (runs text) ≡ words both (runs text)
  front = words-runs text [] 0 text (sym (append-nil text)) ∙ sym (words-runs both other 0 text refl)

  -- .. and so are those of the runs of the second text, moved to after the first
  back : words other (runs other) ≡ words both later
  back =
      words-runs other [] 0 other (sym (append-nil other))
      ∙ sym (words-runs both [] (length text) other (drop-append_seam text other ∙ sym (append-nil other)))

  -- the runs of the joined text are those of the first text and then those of the second, moved to
  -- after the first
  whole : runs both ≡ runs text ++ later
  whole = let none : 0 + length text ≡ length text = omega arith in runs-joined 0 text other apart ∙ ap (λ n. runs text ++ runs_from n other) none

  -- the tokens of the joined text are those of the first text and then those of the second
  joined_tokens : (ts us : List Name) → HasTokens text ts → HasTokens other us → HasTokens both (ts ++ us)
  joined_tokens ts us has also =
      let one : IsSplitAs text both (runs text) (words text has.0) = same_split_words text both (runs text) has.0 (runs text) has.1.1 front in
      let two : IsSplitAs other both later (words other also.0) = same_split_words other both (runs other) also.0 later also.1.1 back in
      let allowed : list_all is_allowed both ≡ true = list_all-append is_allowed text other ∙ and_from (list_all is_allowed text) (list_all is_allowed other) has.1.0 also.1.0 in
      let split : SplitsInto both (runs both) (one.0 ++ two.0) = splits_as both (runs both) (runs text ++ later) (one.0 ++ two.0) whole (splits_join (runs text) one.0 later two.0 one.1 two.1) in
      let first : words both one.0 ≡ ts = one.2 ∙ has.2 in
      let second : words both two.0 ≡ us = two.2 ∙ also.2 in
      (one.0 ++ two.0, (allowed, split), map-append (word both) one.0 two.0 ∙ (ap (λ r. r ++ words both two.0) first ∙ ap (λ r. ts ++ r) second))

-- the law: two joined texts read as the statements of the first and then those of the second
pub joined_reads : laws.JoinedReads
joined_reads text other S T reads also apart = record {
  shaped = list_all-append is_shaped S T ∙ and_from (list_all is_shaped S) (list_all is_shaped T) reads.shaped also.shaped;
  tokens = subst (HasTokens (text ++ other)) (sym (flat_map-append stmt_tokens S T)) (joined_tokens text other apart (tokens_of S) (tokens_of T) reads.tokens also.tokens);
}

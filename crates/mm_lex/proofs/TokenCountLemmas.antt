-- There are at most as many tokens between two places as bytes.
use Rattle.mm_lex.proofs.Prelude.{◌≡◌, ℕ, ◌+◌, ◌-◌, ◌<◌, ◌≤◌, zero, suc, Bool, true, false, List, [], ◌∷◌, length, drop, flat_map, refl, sym, ◌∙◌, ap, arith, length-append, drop-cons, get_or, subst, length-map, drop-length, Span, Name, is_white, is_empty_or_starts_white, with_byte, word, runs_from, CommentAndTokens, all_spans, SplitsInto, runs_after, AreTokensBetween, AreTokensAfter}

-- a visible byte in front of runs adds at most one run
with_few : (at : ℕ) (t : Bool) (spans : List Span) → length (with_byte at t spans) ≤ 1 + length spans
with_few at true spans = omega arith
with_few at false [] = omega arith
with_few at false (s ∷ spans) = omega arith

-- a byte in front, white or visible, adds at most one run
byte_few : (at b : ℕ) (bytes : List ℕ) (t : Bool) → is_white b ≡ t → length (runs_from at (b ∷ bytes)) ≤ 1 + length (runs_from (at + 1) bytes)
byte_few at b bytes true e = rw e (omega arith)
byte_few at b bytes false e = rw e (with_few at (is_empty_or_starts_white bytes) (runs_from (at + 1) bytes))

module _ (text : List ℕ) where
  -- so there is at most one more run after a place than after the next one
  one_few : (at : ℕ) → at < length text → length (runs_after text at) ≤ 1 + length (runs_after text (at + 1))
  one_few at inside =
      let b = get_or text at 0 in
      let next : suc at ≡ at + 1 = omega arith in
      let rest : drop (suc at) text ≡ drop (at + 1) text = ap (λ n. drop n text) next in
      let here : drop at text ≡ b ∷ drop (at + 1) text = drop-cons text at 0 inside ∙ ap (λ r. b ∷ r) rest in
      subst (λ bytes. length (runs_from at bytes) ≤ 1 + length (runs_after text (at + 1))) (sym here) (byte_few at b (drop (at + 1) text) (is_white b) refl)

  -- the runs after a place are at most as many more than those after a later place as there are
  -- bytes between the two
  runs_few : (n at : ℕ) → at + n ≤ length text → length (runs_after text at) ≤ n + length (runs_after text (at + n))
  runs_few zero at within = let same : at + 0 ≡ at = omega arith in rw same (omega arith)
  runs_few (suc n) at within =
      let same : at + 1 + n ≡ at + suc n = omega arith in
      let first = one_few at (omega (arith, within)) in
      let rest = runs_few n (at + 1) (omega (arith, within)) in
      subst (λ k. length (runs_after text at) ≤ suc n + length (runs_after text k)) same (omega (arith, first, rest))

  -- the runs after comments are at most as many as all runs
  parts_few : (ps : List CommentAndTokens) → length (flat_map (λ (p : CommentAndTokens). p.after) ps) ≤ length (flat_map all_spans ps)
  parts_few [] = omega arith
  parts_few (p ∷ ps) =
      omega (
        arith,
        parts_few ps,
        length-append p.after (flat_map (λ (p : CommentAndTokens). p.after) ps),
        length-append (all_spans p) (flat_map all_spans ps),
        length-append p.inside (p.end ∷ p.after),
      )

  -- a split has at most as many tokens as runs
  splits_few : (spans tokens : List Span) → SplitsInto text spans tokens → length tokens ≤ length spans
  splits_few spans tokens split =
      omega (
        arith,
        parts_few split.parts,
        ap length split.whole,
        ap length split.outside,
        length-append split.first (flat_map all_spans split.parts),
        length-append split.first (flat_map (λ (p : CommentAndTokens). p.after) split.parts),
      )

  -- there are at most as many tokens between two places as bytes
  pub between_few : (from at : ℕ) (ws : List Name) → AreTokensBetween text from at ws → length ws + from ≤ at
  between_few from at ws has =
      let same : from + (at - from) ≡ at = omega (arith, has.later) in
      let runs : length (runs_after text from) ≤ (at - from) + length (runs_after text at) =
      subst (λ k. length (runs_after text from) ≤ (at - from) + length (runs_after text k)) same (runs_few (at - from) from (omega (arith, same, has.within))) in
      omega (
        arith,
        runs,
        ap length has.whole,
        length-append has.passed (runs_after text at),
        splits_few has.passed has.tokens has.split,
        ap length has.are,
        length-map has.tokens (word text),
        has.later,
      )

  -- there are at most as many tokens after a place as bytes left
  pub after_few : (at : ℕ) (ws : List Name) → at ≤ length text → AreTokensAfter text at ws → length ws + at ≤ length text
  after_few at ws within are =
      let same : at + (length text - at) ≡ length text = omega (arith, within) in
      let none : runs_after text (length text) ≡ [] = ap (λ r. runs_from (length text) r) (drop-length text) in
      let runs : length (runs_after text at) ≤ (length text - at) + length (runs_after text (length text)) =
      subst (λ k. length (runs_after text at) ≤ (length text - at) + length (runs_after text k)) same (runs_few (length text - at) at (omega (arith, same))) in
      omega (arith, runs, ap length none, splits_few (runs_after text at) are.0 are.1, ap length are.2, length-map are.0 (word text), within)

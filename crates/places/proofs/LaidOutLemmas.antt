-- The tokens of words that are laid out with a space after each are these words.
use Rattle.places.proofs.Words.{◌≡◌, ℕ, ◌+◌, ◌-◌, true, false, cond, ◌&&◌, ◌||◌, List, [], ◌∷◌, ◌++◌, length, take, refl, sym, ◌∙◌, ap, arith, append_assoc, length-append, append-nil, and_from, and_parts, list_all, list_all-append, Span, Name, is_white, runs, runs_from, is_empty_or_starts_white, with_byte, word, is_plain}
use Rattle.std.proofs.Common.{map, true≢false}
use Rattle.std.proofs.Math.Seq.{drop-append_seam, take-append_seam}
use Rattle.std.proofs.lemmas.Bool.Decides.{nat_tests}
use Rattle.std.proofs.lemmas.List.Folds.{list_all-map}
use Rattle.mm_lex.proofs.VisibleRunLemmas.{white_run}
use Rattle.mm_lex.proofs.WordsLemmas.{word-visible}
use Rattle.mm_lex.specs.Alphabet.{is_allowed, is_visible}
use Rattle.mm_lex.specs.Words.{is_word}
use Rattle.mm_read.specs.Reads.{HasTokens}
use Rattle.places.specs.Misread.{laid_out}

abbrev span_of : ℕ → ℕ → Span
span_of start end = record { start = start; end = end }

-- no visible byte is white, and each is allowed
visible_not_white : (b : ℕ) → is_visible b ≡ true → is_white b ≡ false
visible_not_white b h = grind (arith, nat_tests, h)

visible_allowed : (w : Name) → list_all is_visible w ≡ true → list_all is_allowed w ≡ true
visible_allowed [] h = refl
visible_allowed (b ∷ w) h =
    let parts : (is_visible b ≡ true) × (list_all is_visible w ≡ true) = and_parts (is_visible b) (list_all is_visible w) h in
    and_from (is_allowed b) (list_all is_allowed w) (ap (λ t. t || is_white b) parts.0) (visible_allowed w parts.1)

runs-visible : (at c : ℕ) (text : List ℕ) → is_visible c ≡ true → runs_from at (c ∷ text) ≡ with_byte at (is_empty_or_starts_white text) (runs_from (at + 1) text)
runs-visible at c text h = ap (λ t. cond t (runs_from (at + 1) text) (with_byte at (is_empty_or_starts_white text) (runs_from (at + 1) text))) (visible_not_white c h)

-- a word before a space is the first run
runs-word : (at : ℕ) (w : Name) (text : List ℕ) → is_word w ≡ true → runs_from at (w ++ 32 ∷ text) ≡ span_of at (at + length w) ∷ runs_from (at + length w + 1) text
runs-word at [] text h = absurd (true≢false (sym h))
runs-word at (c ∷ []) text h =
    runs-visible at c (32 ∷ text) (and_parts (is_visible c) true h).0 ∙ ap (λ r. span_of at (at + 1) ∷ r) (white_run (at + 1) 32 text refl)
runs-word at (c ∷ d ∷ w) text h =
    let parts : (is_visible c ≡ true) × (list_all is_visible (d ∷ w) ≡ true) = and_parts (is_visible c) (list_all is_visible (d ∷ w)) h in
    let next : (is_visible d ≡ true) × (list_all is_visible w ≡ true) = and_parts (is_visible d) (list_all is_visible w) parts.1 in
    runs-visible at c (d ∷ w ++ 32 ∷ text) parts.0
    ∙ (ap (λ t. with_byte at t (runs_from (at + 1) (d ∷ w ++ 32 ∷ text))) (visible_not_white d next.0)
    ∙ (ap (with_byte at false) (runs-word (at + 1) (d ∷ w) text parts.1) ∙ along (at + 1 + length (d ∷ w)) (at + length (c ∷ d ∷ w)) (longer w)))
  where
    longer : (w : Name) → at + 1 + length (d ∷ w) ≡ at + length (c ∷ d ∷ w)
    longer w = omega arith

    along : (m n : ℕ) → m ≡ n → span_of at m ∷ runs_from (m + 1) text ≡ span_of at n ∷ runs_from (n + 1) text
    along m n e = ap (λ x. span_of at x ∷ runs_from (x + 1) text) e

words-laid : (ws : List Name) (before : List ℕ) → list_all is_word ws ≡ true → map (word (before ++ laid_out ws)) (runs_from (length before) (laid_out ws)) ≡ ws
words-laid [] before h = refl
words-laid (w ∷ ws) before h =
    ap (map (word (before ++ laid_out (w ∷ ws)))) (runs-word (length before) w (laid_out ws) parts.0)
    ∙ (ap (λ x. x ∷ map (word (before ++ laid_out (w ∷ ws))) (runs_from (length before + length w + 1) (laid_out ws))) head
    ∙ ap (λ r. w ∷ r) (tail (words-laid ws (before ++ (w ++ 32 ∷ [])) parts.1)))
  where
    parts : (is_word w ≡ true) × (list_all is_word ws ≡ true)
    parts = and_parts (is_word w) (list_all is_word ws) h

    head : word (before ++ laid_out (w ∷ ws)) (span_of (length before) (length before + length w)) ≡ w
    head =
        ap (λ r. take (length before + length w - length before) r) (drop-append_seam before (laid_out (w ∷ ws)))
        ∙ (ap (λ n. take n (laid_out (w ∷ ws))) (omega arith) ∙ take-append_seam w (32 ∷ laid_out ws))

    whole : (before ++ (w ++ 32 ∷ [])) ++ laid_out ws ≡ before ++ laid_out (w ∷ ws)
    whole = append_assoc before (w ++ 32 ∷ []) (laid_out ws) ∙ ap (λ r. before ++ r) (append_assoc w (32 ∷ []) (laid_out ws))

    long : length (before ++ (w ++ 32 ∷ [])) ≡ length before + length w + 1
    long = omega (arith, length-append before (w ++ 32 ∷ []), length-append w (32 ∷ []))

    tail : map (word ((before ++ (w ++ 32 ∷ [])) ++ laid_out ws)) (runs_from (length (before ++ (w ++ 32 ∷ []))) (laid_out ws)) ≡ ws
        → map (word (before ++ laid_out (w ∷ ws))) (runs_from (length before + length w + 1) (laid_out ws)) ≡ ws
    tail e =
        sym (ap (λ t. map (word t) (runs_from (length (before ++ (w ++ 32 ∷ []))) (laid_out ws))) whole ∙ ap (λ n. map (word (before ++ laid_out (w ∷ ws))) (runs_from n (laid_out ws))) long) ∙ e

allowed-laid : (ws : List Name) → list_all is_word ws ≡ true → list_all is_allowed (laid_out ws) ≡ true
allowed-laid [] h = refl
allowed-laid (w ∷ ws) h =
    let parts : (is_word w ≡ true) × (list_all is_word ws ≡ true) = and_parts (is_word w) (list_all is_word ws) h in
    list_all-append is_allowed w (32 ∷ laid_out ws)
    ∙ and_from (list_all is_allowed w) (is_allowed 32 && list_all is_allowed (laid_out ws)) (visible_allowed w (word-visible w parts.0)) (allowed-laid ws parts.1)

pub laid-tokens : (ws : List Name) → list_all is_word ws ≡ true → list_all is_plain ws ≡ true → HasTokens (laid_out ws) ws
laid-tokens ws are plain = (
  runs (laid_out ws),
  (
    allowed-laid ws are,
    record {
      first = runs (laid_out ws);
      parts = [];
      whole = sym (append-nil (runs (laid_out ws)));
      plain = sym (list_all-map is_plain (word (laid_out ws)) (runs (laid_out ws))) ∙ (ap (list_all is_plain) (words-laid ws [] are) ∙ plain);
      comments = tt;
      outside = sym (append-nil (runs (laid_out ws)));
    },
  ),
  words-laid ws [] are,
)

-- The runs of single-spaced bytes, and the words of a spaced prefix.
use Rattle.mm_lex.proofs.Prelude.{◌≡◌, ℕ, ◌+◌, ◌-◌, ◌<◌, ◌≤◌, suc, Bool, true, false, not, ◌||◌, ◌==◌, List, [], ◌∷◌, ◌++◌, length, take, drop, refl, list_all, onto_first, sym, ◌∙◌, ap, arith, take-append-drop, drop-drop, length-take-le, length-drop, and_from, and_parts, Span, Name, is_white, is_visible, is_empty_or_starts_white, with_byte, runs_from, word, is_symbol, has_byte, words_of, is_word, is_plain, AllPlain, HasOnlyAllowedBytes, words, spaced_prefix_len}
use Rattle.mm_lex.proofs.PlainLemmas.{append_step}
use Rattle.mm_lex.proofs.SingleSpacedLemmas.{is_space, is_symbol_byte, is_single_spaced, prefix_spaced, space_is, not_white, split_of, split_byte, split_gap, first_byte, after_gap, after_byte, single_spaced_symbols}

-- ---- the runs of single-spaced bytes

-- the first run begins at the first byte, and the words of the runs are those of the bytes
record Runs (text : List ℕ) (at : ℕ) (bytes : List ℕ) : Type 0 where
  end : ℕ
  spans : List Span
  whole : runs_from at bytes ≡ record { start = at; end = end } ∷ spans
  some : at < end
  are : words text (record { start = at; end = end } ∷ spans) ≡ split_of bytes

-- a white byte in front changes no run
pub white_run : (at c : ℕ) (bytes : List ℕ) → is_white c ≡ true → runs_from at (c ∷ bytes) ≡ runs_from (at + 1) bytes
white_run at c bytes e = rw e refl

-- a byte that is not white begins a run, or lengthens the one after it
shown_run : (at b : ℕ) (bytes : List ℕ) → is_white b ≡ false → runs_from at (b ∷ bytes) ≡ with_byte at (is_empty_or_starts_white bytes) (runs_from (at + 1) bytes)
shown_run at b bytes e = rw e refl

-- if a place is followed by a byte and other bytes, the next place is followed by these
after_one : (text : List ℕ) (at b : ℕ) (bytes : List ℕ) → drop at text ≡ b ∷ bytes → drop (at + 1) text ≡ bytes
after_one text at b bytes e = let next : drop (1 + at) text ≡ drop (at + 1) text = ap (λ n. drop n text) (omega arith) in sym next ∙ (sym (plus at) ∙ ap (drop 1) e)
  where
    plus : (at : ℕ) → drop 1 (drop at text) ≡ drop (1 + at) text
    plus at = drop-drop 1 at text ∙ ap (λ n. drop n text) (omega arith)

-- the word of a span of one byte
word_one : (text : List ℕ) (at b : ℕ) (bytes : List ℕ) → drop at text ≡ b ∷ bytes → word text (record { start = at; end = at + 1 }) ≡ b ∷ []
word_one text at b bytes e = let one : at + 1 - at ≡ 1 = omega arith in ap (λ n. take n (drop at text)) one ∙ ap (take 1) e

-- the word of a longer span is its first byte and then the word of the span without it
word_more : (text : List ℕ) (at end b : ℕ) (bytes : List ℕ) → drop at text ≡ b ∷ bytes → at + 1 < end
    → word text (record { start = at; end = end }) ≡ b ∷ word text (record { start = at + 1; end = end })
word_more text at end b bytes e long =
    let one : end - at ≡ suc (end - (at + 1)) = omega (arith, long) in
    ap (λ n. take n (drop at text)) one ∙ (ap (take (suc (end - (at + 1)))) e ∙ ap (λ r. b ∷ take (end - (at + 1)) r) (sym (after_one text at b bytes e)))

-- single-spaced bytes begin with a byte of a symbol
head_byte : (c : ℕ) (bytes : List ℕ) → is_single_spaced (c ∷ bytes) ≡ true → is_symbol_byte c ≡ true
head_byte c [] h = h
head_byte c (d ∷ bytes) h = (and_parts (is_symbol_byte c) _ h).0

module _ (text more : List ℕ) where
  -- one more byte in front: a space and the next word follow it, or the rest of its own word
  runs_step : (at b c : ℕ) (bytes : List ℕ) → drop at text ≡ b ∷ c ∷ (bytes ++ more) → is_single_spaced (b ∷ c ∷ bytes) ≡ true → (t : Bool) → is_space c ≡ t
      → (t ≡ true → Runs text (at + 1 + 1) bytes) → (t ≡ false → Runs text (at + 1) (c ∷ bytes)) → Runs text at (b ∷ c ∷ bytes)
  runs_step at b c bytes e h true k gap on =
      let shown = first_byte b c bytes h in
      let white : is_white c ≡ true = ap is_white (space_is c k) in
      let rest = gap refl in record {
        end = at + 1;
        spans = record { start = at + 1 + 1; end = rest.end } ∷ rest.spans;
        whole = shown_run at b (c ∷ bytes) (not_white b shown) ∙ (ap (λ t. with_byte at t (runs_from (at + 1) (c ∷ bytes))) white
            ∙ ap (with_byte at true) (white_run (at + 1) c bytes white ∙ rest.whole));
        some = omega arith;
        are = ap (λ w. w ∷ words text (record { start = at + 1 + 1; end = rest.end } ∷ rest.spans)) (word_one text at b (c ∷ (bytes ++ more)) e)
            ∙ (ap (λ r. (b ∷ []) ∷ r) rest.are ∙ (ap (onto_first b) (sym (split_gap c bytes k)) ∙ sym (split_byte b (c ∷ bytes) shown)));
      }
  runs_step at b c bytes e h false k gap on =
      let shown = first_byte b c bytes h in
      let white : is_white c ≡ false = not_white c (head_byte c bytes (after_byte b c bytes h k)) in
      let rest = on refl in record {
        end = rest.end;
        spans = rest.spans;
        whole = shown_run at b (c ∷ bytes) (not_white b shown) ∙ (ap (λ t. with_byte at t (runs_from (at + 1) (c ∷ bytes))) white ∙ ap (with_byte at false) rest.whole);
        some = omega (arith, rest.some);
        are = ap (λ w. w ∷ words text rest.spans) (word_more text at rest.end b (c ∷ (bytes ++ more)) e rest.some)
            ∙ (ap (onto_first b) rest.are ∙ sym (split_byte b (c ∷ bytes) shown));
      }

  -- the runs of single-spaced bytes at any place of a text have the words of these bytes
  single_spaced_runs : (at : ℕ) (bytes : List ℕ) → drop at text ≡ bytes ++ more → is_single_spaced bytes ≡ true → Runs text at bytes
  single_spaced_runs at [] e h = cc
  single_spaced_runs at (b ∷ []) e h = record {
    end = at + 1;
    spans = [];
    whole = shown_run at b [] (not_white b h);
    some = omega arith;
    are = ap (λ w. w ∷ []) (word_one text at b more e) ∙ sym (split_byte b [] h);
  }
  single_spaced_runs at (b ∷ c ∷ bytes) e h =
      let next : drop (at + 1) text ≡ c ∷ (bytes ++ more) = after_one text at b (c ∷ (bytes ++ more)) e in
      runs_step at b c bytes e h (is_space c) refl
      (λ k. single_spaced_runs (at + 1 + 1) bytes (after_one text (at + 1) c (bytes ++ more) next) (after_gap b c bytes h k))
      (λ k. single_spaced_runs (at + 1) (c ∷ bytes) next (after_byte b c bytes h k))

-- ---- runs before a white byte

-- one byte before bytes that start white: its run ends there
no_more_runs : (at b : ℕ) (more : List ℕ) (t : Bool) → is_white b ≡ t → is_empty_or_starts_white more ≡ true → runs_from at (b ∷ more) ≡ runs_from at (b ∷ []) ++ runs_from (at + 1) more
no_more_runs at b more true e white = rw e refl
no_more_runs at b more false e white = rw (e, white) refl

-- the runs of bytes before others that start white are those of the first and then those of the
-- others
runs_before_white : (at : ℕ) (bytes more : List ℕ) → is_empty_or_starts_white more ≡ true → runs_from at (bytes ++ more) ≡ runs_from at bytes ++ runs_from (at + length bytes) more
runs_before_white at [] more white = let same : at ≡ at + 0 = omega arith in ap (λ n. runs_from n more) same
runs_before_white at (b ∷ []) more white = no_more_runs at b more (is_white b) refl white
runs_before_white at (b ∷ c ∷ bytes) more white = append_step at b c bytes more (is_white b) refl (runs_before_white (at + 1) (c ∷ bytes) more white)

-- ---- the words of a spaced prefix

words_of-some : (bytes : List ℕ) → is_single_spaced bytes ≡ true → words_of bytes ≡ split_of bytes
words_of-some [] h = cc
words_of-some (b ∷ bytes) h = refl

-- a symbol is a word
symbol_word : (w : Name) → is_symbol w ≡ true → is_word w ≡ true
symbol_word [] h = cc
symbol_word (b ∷ w) h = (and_parts (list_all is_visible (b ∷ w)) _ h).0

-- a symbol is plain, because it has no `$`
symbol_plain : (w : Name) → is_symbol w ≡ true → is_plain w ≡ true
symbol_plain [] h = cc
symbol_plain (b ∷ w) h = rw (no_dollar b (has_byte 36 w) (and_parts (list_all is_visible (b ∷ w)) _ h).1) refl
  where
    no_dollar : (b : ℕ) (t : Bool) → not ((b == 36) || t) ≡ true → (b == 36) ≡ false
    no_dollar b t h = by (b == 36) h
      where
        by : (u : Bool) → not (u || t) ≡ true → u ≡ false
        by true h = cc
        by false h = refl

-- each symbol in a list of symbols is a word
pub symbols_words : (ws : List Name) → list_all is_symbol ws ≡ true → list_all is_word ws ≡ true
symbols_words [] h = refl
symbols_words (w ∷ ws) h = and_from _ _ (symbol_word w (and_parts (is_symbol w) _ h).0) (symbols_words ws (and_parts (is_symbol w) _ h).1)

-- runs whose words are symbols are plain
symbols_plain : (text : List ℕ) (spans : List Span) → list_all is_symbol (words text spans) ≡ true → AllPlain text spans
symbols_plain text [] h = refl
symbols_plain text (s ∷ spans) h =
    and_from _ _ (symbol_plain (word text s) (and_parts (is_symbol (word text s)) _ h).0) (symbols_plain text spans (and_parts (is_symbol (word text s)) _ h).1)

-- the text from a place on begins with these runs, whose words are symbols
pub record IsFrontOf (text : List ℕ) (at n : ℕ) (bytes : List ℕ) : Type 0 where
  pub spans : List Span
  pub whole : runs_from at (drop at text) ≡ spans ++ runs_from (at + n) (drop (at + n) text)
  pub are : words text spans ≡ words_of bytes
  pub symbols : list_all is_symbol (words_of bytes) ≡ true
  pub plain : AllPlain text spans

-- the text begins with the runs of a spaced prefix, if a white byte or the end of the text follows
-- it
pub prefix_front : (text : List ℕ) (at n : ℕ) → HasOnlyAllowedBytes (drop at text) → is_empty_or_starts_white (drop at text) ≡ false → n ≡ spaced_prefix_len (drop at text) → 0 < n
    → at + n ≤ length text → is_empty_or_starts_white (drop (at + n) text) ≡ true → IsFrontOf text at n (take n (drop at text))
prefix_front text at n allowed shown e some within white =
    let bytes = take n (drop at text) in
    let more : drop n (drop at text) ≡ drop (at + n) text = drop-drop n at text in
    let split : drop at text ≡ bytes ++ drop (at + n) text = sym (take-append-drop n (drop at text)) ∙ ap (λ r. bytes ++ r) more in
    let single_spaced : is_single_spaced bytes ≡ true = ap (λ k. is_single_spaced (take k (drop at text))) e ∙ prefix_spaced (drop at text) allowed shown (omega (arith, some, e)) in
    let long : length bytes ≡ n = length-take-le n (drop at text) (omega (arith, within, length-drop at text)) in
    let runs = single_spaced_runs text (drop (at + n) text) at bytes split single_spaced in
    let symbols = ap (list_all is_symbol) (words_of-some bytes single_spaced) ∙ single_spaced_symbols bytes single_spaced in
    let spans : List Span = record { start = at; end = runs.end } ∷ runs.spans in
    let are : words text spans ≡ words_of bytes = runs.are ∙ sym (words_of-some bytes single_spaced) in record {
      spans = spans;
      whole = ap (runs_from at) split ∙ (runs_before_white at bytes (drop (at + n) text) white
          ∙ (ap (λ r. r ++ runs_from (at + length bytes) (drop (at + n) text)) runs.whole ∙ ap (λ k. spans ++ runs_from (at + k) (drop (at + n) text)) long));
      are = are;
      symbols = symbols;
      plain = symbols_plain text spans (ap (list_all is_symbol) are ∙ symbols);
    }

-- A list of symbols, read piece by piece and word by word.
use Rattle.mm_lex.proofs.Prelude.{◌≡◌, ℕ, ◌+◌, ◌-◌, ◌<◌, ◌≤◌, true, false, List, [], ◌∷◌, ◌++◌, length, take, drop, refl, list_all, sym, ◌∙◌, ap, arith, append_assoc, append-nil, list_all-append, and_from, Span, Name, is_empty_or_starts_white, word, is_symbol, words_of, AreWords, HasOnlyAllowedBytes, words, runs_after, spaced_prefix_len, AreTokensAfter, IsTokenAfter, AddsSymbols, EndsSymbols}
use Rattle.mm_lex.proofs.LanesLemmas.{allowed-drop}
use Rattle.mm_lex.proofs.VisibleRunLemmas.{IsFrontOf, prefix_front, symbols_words}
use Rattle.mm_lex.proofs.BetweenLemmas.{between_none, between_on, between_as, between_plain, between_runs, after_on, after_as}

module _ {text : List ℕ} where
  -- there are no symbols between a place and itself
  pub adds_none : (at : ℕ) (words : List Name) → at ≤ length text → AddsSymbols text at at words words
  adds_none at words within = record { more = []; whole = sym (append-nil words); between = between_none at within; symbols = refl }

  -- the symbols from one place to a second and then to a third are the symbols from the first to
  -- the third
  pub adds_on : {from at end : ℕ} {old new last : List Name} → AddsSymbols text from at old new → AddsSymbols text at end new last → AddsSymbols text from end old last
  adds_on {old = old} adds on = record {
    more = adds.more ++ on.more;
    whole = on.whole ∙ (ap (λ r. r ++ on.more) adds.whole ∙ append_assoc old adds.more on.more);
    between = between_on adds.between on.between;
    symbols = list_all-append is_symbol adds.more on.more ∙ and_from _ _ adds.symbols on.symbols;
  }

  -- white bytes add no symbol
  pub adds_white : (at start : ℕ) (words : List Name) → at ≤ start → start ≤ length text → runs_after text at ≡ runs_after text start → AddsSymbols text at start words words
  adds_white at start words later within same = record { more = []; whole = sym (append-nil words); between = between_runs at start later within same; symbols = refl }

  -- a token that is a symbol adds itself
  pub adds_word : (at : ℕ) (s : Span) (w : Name) (old new : List Name) → IsTokenAfter text at s → w ≡ word text s → is_symbol w ≡ true → new ≡ old ++ w ∷ []
      → AddsSymbols text at s.end old new
  adds_word at s w old new is same symbol e = record {
    more = w ∷ [];
    whole = e;
    between = between_as (ap (λ v. v ∷ []) (sym same)) is.between;
    symbols = and_from _ _ symbol refl;
  }

  -- the symbols read from a place on into an empty list
  module _ {from at : ℕ} {words : List Name} (adds : AddsSymbols text from at [] words) where
    -- if the next token is no symbol, the list ends with it
    pub ends_with : (s : Span) → IsTokenAfter text at s → is_symbol (word text s) ≡ false → EndsSymbols text from words s
    ends_with s is other = record {
      token = is.token;
      later = omega (arith, adds.between.later, is.later);
      between = between_as (ap (λ r. r ++ word text s ∷ []) (sym adds.whole)) (between_on adds.between is.between);
      other = other;
    }

    -- if no token is left, the list ends with the text
    pub ends_text : AreTokensAfter text at [] → AreTokensAfter text from words
    ends_text none = after_as from (append-nil adds.more ∙ sym adds.whole) (after_on adds.between none)

module _ (text : List ℕ) where
  -- a spaced prefix of the text that is left
  module _ (start end n : ℕ) (allowed : HasOnlyAllowedBytes text) (shown : is_empty_or_starts_white (drop start text) ≡ false) (is : n ≡ spaced_prefix_len (drop start text)) (some : 0 < n)
      (same : end ≡ start + n) (within : end ≤ length text) (white : is_empty_or_starts_white (drop end text) ≡ true) where
    -- the runs of the spaced prefix, whose words are symbols
    front : IsFrontOf text start n (take n (drop start text))
    front = prefix_front text start n (allowed-drop start text allowed) shown is some (omega (arith, same, within)) (ap (λ k. is_empty_or_starts_white (drop k text)) (sym same) ∙ white)

    -- the spaced prefix is as long as the piece that is copied
    width : end - start ≡ n
    width = omega (arith, same)

    abbrev piece : List ℕ
    piece = take (end - start) (drop start text)

    -- the words of the spaced prefix are those of the piece
    piece_is : words_of (take n (drop start text)) ≡ words_of piece
    piece_is = ap (λ k. words_of (take k (drop start text))) (sym width)

    -- each word of the piece has a byte, and only visible ones
    pub prefix_words : AreWords (words_of piece)
    prefix_words = symbols_words (words_of piece) (ap (list_all is_symbol) (sym piece_is) ∙ front.symbols)

    -- the piece adds its words to the symbols read so far
    pub prefix_adds : (old new : List Name) → new ≡ old ++ words_of piece → AddsSymbols text start end old new
    prefix_adds old new e = record {
      more = words_of piece;
      whole = e;
      between = between_as (front.are ∙ piece_is) (between_plain start end front.spans (omega (arith, same)) within
          (front.whole ∙ ap (λ k. front.spans ++ runs_after text k) (sym same)) front.plain);
      symbols = ap (list_all is_symbol) (sym piece_is) ∙ front.symbols;
    }

-- The parts of a statement after a place, and what follows the place if a part is missing.
use Rattle.mm_read.proofs.Words.{◌≡◌, ℕ, Bool, ◌+◌, ◌<◌, ◌≤◌, ◌⊎◌, true, false, List, [], ◌∷◌, ◌++◌, length, Option, Some, None, list_all, sym, ◌∙◌, arith, refl, subst, append_assoc, length-append, Span, Name, name_eq, is_symbol, word, AreTokensAfter, IsTokenAfter, EndsSymbols, IsListAndEnd, after_rest, after_unique, between_few, after_few, HasBrokenList, StartsOtherwise}
use Rattle.std.proofs.lemmas.List.{append-nil}

-- a list has at most as many symbols as there are bytes left
pub list_few : (text : List ℕ) (at : ℕ) (ws : List Name) (stop : Option Span) → at ≤ length text → IsListAndEnd text at ws stop → length ws + at ≤ length text
list_few text at ws (Some s) within is = omega (arith, between_few text at s.end (ws ++ word text s ∷ []) is.between, length-append ws (word text s ∷ []), is.token.within)
list_few text at ws None within all = after_few text at ws within all

module _ {text : List ℕ} (at : ℕ) where
  -- ---- one token

  -- if no token is left, no token of the required kind follows
  pub starts_none : (fits : Name → Bool) → AreTokensAfter text at [] → (tokens : List Name) → AreTokensAfter text at tokens → StartsOtherwise fits tokens
  starts_none fits none tokens are = subst (StartsOtherwise fits) (after_unique at none are) tt

  -- if the next token is of another kind, no token of the required kind follows
  pub starts_other : (fits : Name → Bool) (s : Span) → IsTokenAfter text at s → fits (word text s) ≡ false → (tokens : List Name) → AreTokensAfter text at tokens → StartsOtherwise fits tokens
  starts_other fits s is other tokens are =
      let r : (us : List Name) × AreTokensAfter text s.end us × (tokens ≡ word text s ∷ us) = after_rest is.between are in
      subst (StartsOtherwise fits) (sym r.2) other

  -- ---- a list

  module _ (ws : List Name) (symbols : list_all is_symbol ws ≡ true) (number least : ℕ) (end : Name) where
    -- a list that the end of the text cuts off is broken there
    pub stops_at_end : at ≤ length text → AreTokensAfter text at ws → HasBrokenList text at number least end (number + length ws)
    stops_at_end within all = record {
      few = omega (arith, after_few text at ws within all);
      stops = λ tokens are. record {
        ws = ws;
        rest = [];
        symbols = symbols;
        whole = sym (after_unique at all are) ∙ sym (append-nil ws);
        place = refl;
        stop = tt;
      };
    }

    -- a list is broken at the token after the symbols, if they are too few or this token does not
    -- end the list
    pub stops_otherwise : (s : Span) → EndsSymbols text at ws s → (length ws < least) ⊎ (name_eq (word text s) end ≡ false) → HasBrokenList text at number least end (number + length ws)
    stops_otherwise s is why = record {
      few = omega (arith, between_few text at s.end (ws ++ word text s ∷ []) is.between, length-append ws (word text s ∷ []), is.token.within);
      stops = λ tokens are.
          let r : (us : List Name) × AreTokensAfter text s.end us × (tokens ≡ (ws ++ word text s ∷ []) ++ us) = after_rest is.between are in record {
            ws = ws;
            rest = word text s ∷ r.0;
            symbols = symbols;
            whole = r.2 ∙ append_assoc ws (word text s ∷ []) r.0;
            place = refl;
            stop = (is.other, why);
          };
    }

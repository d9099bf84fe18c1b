-- The next run is a token, or there is a comment fault at it or in the comment that begins with it.
use Rattle.mm_lex.proofs.Prelude.{◌≡◌, ℕ, ◌≤◌, true, List, [], ◌∷◌, refl, ◌∙◌, ap, arith, inl, inr, Span, word, IsPartOfRun, opener, closer, is_plain, AllPlain, HasOnlyAllowedBytes, IsCommentFaultOfRuns, runs_after, IsNestedAt, AreTokensBetween, IsTokenAfter}
use Rattle.mm_lex.proofs.ScanResults.{no_runs}
use Rattle.mm_lex.proofs.Progress.{IsWordAt-run}
use Rattle.mm_lex.proofs.BetweenLemmas.{between_on, between_token, stops_on}

module _ {text : List ℕ} {at from : ℕ} (has : AreTokensBetween text at from []) (s : Span) (run : runs_after text from ≡ s ∷ runs_after text s.end) where
  -- if the run is plain, it is the next token
  pub next_is : HasOnlyAllowedBytes text → IsPartOfRun text s → from ≤ s.start → is_plain (word text s) ≡ true → IsTokenAfter text at s
  next_is allowed is later plain = record {
    token = IsWordAt-run text s allowed is;
    later = omega (arith, has.later, later, is.some);
    between = between_on has (between_token from s run is later plain);
  }

  -- if the run is a `$)`, it is the comment fault
  pub stops_stray : word text s ≡ closer → IsCommentFaultOfRuns text (runs_after text at) s.start
  stops_stray closes =
      stops_on has s.start (inl (record { before = []; tokens = []; at = s; rest = runs_after text s.end; whole = run; split = no_runs text; closes = closes; place = refl }))

  module _ (opens : word text s ≡ opener) where
    -- if the run begins a comment, a `$(` inside that comment is the comment fault
    pub stops_nested : (offset : ℕ) → IsNestedAt text s.end offset → IsCommentFaultOfRuns text (runs_after text at) offset
    stops_nested offset is =
        stops_on has offset (inr (inl (record {
          before = [];
          tokens = [];
          outer = s;
          inside = is.inside;
          at = is.at;
          rest = is.rest;
          whole = run ∙ ap (λ r. s ∷ r) is.whole;
          split = no_runs text;
          opens = opens;
          plain = is.plain;
          opens_again = is.opens_again;
          place = is.place;
        })))

    -- if the run begins a comment that is never closed, the run is the comment fault
    pub stops_unclosed : AllPlain text (runs_after text s.end) → IsCommentFaultOfRuns text (runs_after text at) s.start
    stops_unclosed plain =
        stops_on has s.start (inr (inr (record {
          before = [];
          tokens = [];
          at = s;
          inside = runs_after text s.end;
          whole = run;
          split = no_runs text;
          opens = opens;
          plain = plain;
          place = refl;
        })))

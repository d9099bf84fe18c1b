-- How far the code has read: the result of the scan of the whole text, by the text that is left.
use Rattle.mm_lex.proofs.Prelude.{◌≡◌, ℕ, ◌-◌, ◌<◌, ◌≤◌, Bool, true, false, not, cond, ◌||◌, List, [], ◌∷◌, ◌++◌, length, drop, Some, None, Ok, Err, refl, list_all, All, sym, ◌∙◌, ap, arith, append_assoc, true≢false, min, append-nil, length-take, length-drop, All-push, list_all-append, bytes_eq-Decides, and_from, and_parts, Span, Name, is_white, is_visible, is_allowed, runs, word, IsPartOfRun, is_word, opener, closer, is_plain, AllPlain, HasOnlyAllowedBytes, AreTokens, IsWordAt, IsCommentFault, runs_after, PassesPlain, IsClosedAt, IsNestedAt}
use Rattle.mm_lex.proofs.LanesLemmas.{allowed-take, allowed-drop}
use Rattle.mm_lex.proofs.ScanRuns.{prepend, prepend-append, scan, opens, closes, scan_opener, scan_closer, scan_plain, scan_nested, scan_closing, scan_all_inside, is_opener, is_closer, closer_no_opener, scan-stops}
use Rattle.mm_lex.proofs.ScanResults.{split-scan, stops-scan, plain}

-- ---- a run of a text of allowed bytes is a word

-- an allowed byte that is not white is visible
visible_byte : (v w : Bool) → (v || w) ≡ true → not w ≡ true → v ≡ true
visible_byte true w h k = refl
visible_byte false true h k = cc
visible_byte false false h k = cc

-- allowed bytes of which none is white are all visible
all_visible : (bytes : Name) → list_all is_allowed bytes ≡ true → list_all (λ b. not (is_white b)) bytes ≡ true → list_all is_visible bytes ≡ true
all_visible [] h k = refl
all_visible (b ∷ bytes) h k =
    and_from (is_visible b) _ (visible_byte (is_visible b) (is_white b) (and_parts (is_allowed b) _ h).0 (and_parts (not (is_white b)) _ k).0)
    (all_visible bytes (and_parts (is_allowed b) _ h).1 (and_parts (not (is_white b)) _ k).1)

-- visible bytes, at least one, are a word
some_word : (bytes : Name) → 0 < length bytes → list_all is_visible bytes ≡ true → is_word bytes ≡ true
some_word [] some h = absurd (omega (arith, some))
some_word (b ∷ bytes) some h = h

pub IsWordAt-run : (text : List ℕ) (s : Span) → HasOnlyAllowedBytes text → IsPartOfRun text s → IsWordAt text s
IsWordAt-run text s allowed is =
    let long : length (word text s) ≡ min (s.end - s.start) (length text - s.start) = length-take (s.end - s.start) (drop s.start text) ∙ ap (min (s.end - s.start)) (length-drop s.start text) in
    let some : 0 < length (word text s) = omega (arith, long, is.some, is.within) in
    record {
      some = is.some;
      within = is.within;
      word = some_word (word text s) some (all_visible (word text s) (allowed-take (s.end - s.start) (drop s.start text) (allowed-drop s.start text allowed)) is.visible);
    }

-- ---- inside a comment

-- plain runs from one place to a second and then to a third are plain runs from the first to the
-- third
pub passes_on : {text : List ℕ} {from at end : ℕ} → PassesPlain text from at → PassesPlain text at end → PassesPlain text from end
passes_on {text} {from} {at} {end} so more = record {
  passed = so.passed ++ more.passed;
  later = omega (arith, so.later, more.later);
  within = more.within;
  whole = so.whole ∙ (ap (λ r. so.passed ++ r) more.whole ∙ sym (append_assoc so.passed more.passed (runs_after text end)));
  plain = list_all-append (λ s. is_plain (word text s)) so.passed more.passed ∙ and_from _ _ so.plain more.plain;
}

all_plain-push : (text : List ℕ) (xs : List Span) (s : Span) → AllPlain text xs → is_plain (word text s) ≡ true → AllPlain text (xs ++ s ∷ [])
all_plain-push text [] s h k = and_from _ _ k refl
all_plain-push text (x ∷ xs) s h k = and_from (is_plain (word text x)) _ (and_parts (is_plain (word text x)) _ h).0 (all_plain-push text xs s (and_parts (is_plain (word text x)) _ h).1 k)

module _ {text : List ℕ} {from at : ℕ} (so : PassesPlain text from at) where
  module _ (s : Span) (run : runs_after text at ≡ s ∷ runs_after text s.end) (is : IsPartOfRun text s) (later : at ≤ s.start) where
    -- the runs from the inside of the comment on: those that were passed, this one, and those after
    -- it
    inside_whole : runs_after text from ≡ so.passed ++ s ∷ runs_after text s.end
    inside_whole = so.whole ∙ ap (λ r. so.passed ++ r) run

    -- if this run is a `$)`, the comment ends with it
    pub inside_closed : word text s ≡ closer → IsClosedAt text from s.end
    inside_closed closes = record {
      inside = so.passed;
      at = s;
      later = omega (arith, so.later, later, is.some);
      within = is.within;
      whole = inside_whole;
      plain = so.plain;
      closes = closes;
    }

    -- if this run is a `$(`, it is nested in the comment
    pub inside_nested : word text s ≡ opener → IsNestedAt text from s.start
    inside_nested opens = record {
      inside = so.passed;
      at = s;
      rest = runs_after text s.end;
      whole = inside_whole;
      plain = so.plain;
      opens_again = opens;
      place = refl;
    }

    -- if this run is plain, it is passed over
    pub inside_more : is_plain (word text s) ≡ true → PassesPlain text from s.end
    inside_more is_plain = record {
      passed = so.passed ++ s ∷ [];
      later = omega (arith, so.later, later, is.some);
      within = is.within;
      whole = inside_whole ∙ sym (append_assoc so.passed (s ∷ []) (runs_after text s.end));
      plain = all_plain-push text so.passed s so.plain is_plain;
    }

-- ---- outside comments

pub record SplitUpTo (text : List ℕ) (spans : List Span) (allocation_failed : Bool) (at : ℕ) : Type 0 where
  pub tokens : List Span
  pub within : at ≤ length text
  pub whole : scan text (runs text) None ≡ prepend tokens (scan text (runs_after text at) None)
  pub kept : allocation_failed ≡ false → spans ≡ tokens
  pub words : All (IsWordAt text) spans

-- if no allocation has failed, the spans that were kept are the tokens, also with one more of both
kept_push : (allocation_failed r : Bool) (spans tokens : List Span) (s : Span) → (allocation_failed ≡ false → spans ≡ tokens) → (allocation_failed ≡ true → r ≡ true)
    → r ≡ false → cond r spans (spans ++ s ∷ []) ≡ tokens ++ s ∷ []
kept_push true r spans tokens s kept stays e = absurd (true≢false (sym (stays refl) ∙ e))
kept_push false r spans tokens s kept stays e = rw e (ap (λ t. t ++ s ∷ []) (kept refl))

-- each span is the place of a word, also after one more was pushed or could not be pushed
words_push : (text : List ℕ) (r : Bool) (spans : List Span) (s : Span) → All (IsWordAt text) spans → IsWordAt text s → All (IsWordAt text) (cond r spans (spans ++ s ∷ []))
words_push text true spans s are is = are
words_push text false spans s are is = All-push (IsWordAt text) spans s are is

module _ {text : List ℕ} {spans : List Span} {allocation_failed : Bool} {at : ℕ} (so : SplitUpTo text spans allocation_failed at) where
  module _ (s : Span) (run : runs_after text at ≡ s ∷ runs_after text s.end) where
    -- the scan of the text gives the tokens so far, and then the result of the scan from this run
    -- on
    here : scan text (runs text) None ≡ prepend so.tokens (scan text (s ∷ runs_after text s.end) None)
    here = so.whole ∙ ap (λ r. prepend so.tokens (scan text r None)) run

    -- a plain run is one more token
    pub split_more : HasOnlyAllowedBytes text → IsPartOfRun text s → opens text s ≡ false → closes text s ≡ false
        → (new : List Span) (r : Bool) → new ≡ cond r spans (spans ++ s ∷ []) → (allocation_failed ≡ true → r ≡ true) → SplitUpTo text new r s.end
    split_more allowed is unopened unclosed new r e stays = record {
      tokens = so.tokens ++ s ∷ [];
      within = is.within;
      whole = here ∙ (ap (prepend so.tokens) (scan_plain text s (runs_after text s.end) unopened unclosed) ∙ prepend-append so.tokens (s ∷ []) (scan text (runs_after text s.end) None));
      kept = λ f. e ∙ kept_push allocation_failed r spans so.tokens s so.kept stays f;
      words = rw e (words_push text r spans s so.words (IsWordAt-run text s allowed is));
    }

    -- at a `$)` outside comments the scan of the text stops
    pub stops_closer : closes text s ≡ true → scan text (runs text) None ≡ Err s.start
    stops_closer closed =
        let unopened = closer_no_opener text s ((bytes_eq-Decides _ _).0 closed) in
        here ∙ ap (prepend so.tokens) (scan_closer text s (runs_after text s.end) unopened closed)

    module _ (yes : opens text s ≡ true) where
      -- at a `$(` the scan continues inside a comment that begins there
      opened : scan text (runs text) None ≡ prepend so.tokens (scan text (runs_after text s.end) (Some s.start))
      opened = here ∙ ap (prepend so.tokens) (scan_opener text s (runs_after text s.end) yes)

      -- a comment that is closed is passed over
      pub split_comment : (end : ℕ) → IsClosedAt text s.end end → SplitUpTo text spans allocation_failed end
      split_comment end is = record {
        tokens = so.tokens;
        within = is.within;
        whole = opened ∙ ap (prepend so.tokens) (ap (λ r. scan text r (Some s.start)) is.whole
            ∙ (scan_all_inside text is.inside (is.at ∷ runs_after text end) s.start is.plain
            ∙ scan_closing text is.at (runs_after text end) s.start (closer_no_opener text is.at is.closes) (is_closer text is.at is.closes)));
        kept = so.kept;
        words = so.words;
      }

      -- at a `$(` inside that comment the scan of the text stops
      pub stops_nested : (offset : ℕ) → IsNestedAt text s.end offset → scan text (runs text) None ≡ Err offset
      stops_nested offset is =
          opened ∙ (ap (prepend so.tokens) (ap (λ r. scan text r (Some s.start)) is.whole
          ∙ (scan_all_inside text is.inside (is.at ∷ is.rest) s.start is.plain
          ∙ scan_nested text is.at is.rest s.start (is_opener text is.at is.opens_again)))
          ∙ ap Err is.place)

      -- if the comment is never closed, the scan of the text stops at the `$(` that begins it
      pub stops_unclosed : AllPlain text (runs_after text s.end) → scan text (runs text) None ≡ Err s.start
      stops_unclosed plain =
          opened ∙ ap (prepend so.tokens) (ap (λ r. scan text r (Some s.start)) (sym (append-nil (runs_after text s.end)))
          ∙ scan_all_inside text (runs_after text s.end) [] s.start plain)

  -- if no run is left, the scan of the text gives the tokens read
  pub split_end : runs_after text at ≡ [] → scan text (runs text) None ≡ Ok so.tokens
  split_end none = so.whole ∙ (ap (λ r. prepend so.tokens (scan text r None)) none ∙ ap Ok (append-nil so.tokens))

-- ---- the answer of the code at the end

pub AreTokens-scan : (text : List ℕ) (tokens : List Span) → HasOnlyAllowedBytes text → scan text (runs text) None ≡ Ok tokens → AreTokens text tokens
AreTokens-scan text tokens allowed e = (allowed, split-scan text (runs text) tokens e)

pub IsCommentFault-scan : (text : List ℕ) (offset : ℕ) → HasOnlyAllowedBytes text → scan text (runs text) None ≡ Err offset → IsCommentFault text offset
IsCommentFault-scan text offset allowed e = (allowed, stops-scan text (runs text) offset e)

-- the offset at which the scan stops is the only comment fault
pub same_fault : (text : List ℕ) (a b : ℕ) → scan text (runs text) None ≡ Err a → IsCommentFault text b → a ≡ b
same_fault text a b e is = let f = scan-stops text (runs text) b is.1 in cc

-- if the scan gives tokens, there is no comment fault
pub no_fault : (text : List ℕ) (tokens : List Span) (offset : ℕ) → scan text (runs text) None ≡ Ok tokens → IsCommentFault text offset → ⊥
no_fault text tokens offset e is = let f = scan-stops text (runs text) offset is.1 in cc

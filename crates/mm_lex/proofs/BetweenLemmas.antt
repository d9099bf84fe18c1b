-- The tokens between two places of a text, joined over a third place, and the tokens after a place.
use Rattle.mm_lex.proofs.Prelude.{◌≡◌, ℕ, ◌≤◌, true, List, [], ◌∷◌, ◌++◌, length, flat_map, None, Ok, Err, refl, sym, ◌∙◌, ap, arith, subst, append_assoc, append-nil, map-append, and_from, and_parts, Span, LexFault, Text, Comment, Memory, Name, word, IsPartOfRun, opener, is_plain, AllPlain, CommentAndTokens, all_spans, AreCommentsAndTokens, SplitsInto, words, IsCommentFaultOfRuns, runs_after, IsClosedAt, AreTokensBetween, AreTokensAfter, IsCommentFaultAfter, IsCommentFaultOrMemoryAfter}
use Rattle.mm_lex.proofs.ScanRuns.{Outcome, prepend, scan, scan_split, scan-split, scan-stops}
use Rattle.mm_lex.proofs.ScanResults.{with_plain, with_comment, splits_as, no_runs, split-scan, stops-scan}

-- the plain runs after each comment, in order
abbrev outer : List CommentAndTokens → List Span
outer ps = flat_map (λ (p : CommentAndTokens). p.after) ps

module _ {text : List ℕ} where
  -- ---- one split after another

  -- plain runs before a split are tokens before its tokens
  plain_split : (front spans tokens : List Span) → AllPlain text front → SplitsInto text spans tokens → SplitsInto text (front ++ spans) (front ++ tokens)
  plain_split [] spans tokens are split = split
  plain_split (s ∷ front) spans tokens are split =
      with_plain text s (front ++ spans) (front ++ tokens) (and_parts (is_plain (word text s)) _ are).0 (plain_split front spans tokens (and_parts (is_plain (word text s)) _ are).1 split)

  -- plain runs and whole comments before a split: the runs outside the comments are tokens before
  -- its tokens
  parts_split : (first : List Span) (ps : List CommentAndTokens) (spans tokens : List Span) → AllPlain text first → AreCommentsAndTokens text ps → SplitsInto text spans tokens
      → SplitsInto text (first ++ (flat_map all_spans ps ++ spans)) (first ++ (outer ps ++ tokens))
  parts_split first [] spans tokens plain are split = plain_split first spans tokens plain split
  parts_split first (p ∷ ps) spans tokens plain are split =
      let rest = flat_map all_spans ps in
      let inner : SplitsInto text (p.after ++ (rest ++ spans)) (p.after ++ (outer ps ++ tokens)) = parts_split p.after ps spans tokens are.0.after are.1 split in
      let whole : flat_map all_spans (p ∷ ps) ++ spans ≡ p.begin ∷ (p.inside ++ p.end ∷ (p.after ++ (rest ++ spans)))
      = append_assoc (all_spans p) rest spans ∙ ap (λ r. p.begin ∷ r) (append_assoc p.inside (p.end ∷ p.after) (rest ++ spans)) in
      let these : SplitsInto text (flat_map all_spans (p ∷ ps) ++ spans) (p.after ++ (outer ps ++ tokens))
      = splits_as text _ _ _ whole (with_comment text p.begin p.end p.inside _ _ are.0.begins are.0.inside are.0.ends inner) in
      plain_split first _ _ plain (subst (λ ts. SplitsInto text (flat_map all_spans (p ∷ ps) ++ spans) ts) (sym (append_assoc p.after (outer ps) tokens)) these)

  -- the splits of two lists of runs join into a split of the joined list
  pub splits_join : (a t b u : List Span) → SplitsInto text a t → SplitsInto text b u → SplitsInto text (a ++ b) (t ++ u)
  splits_join a t b u split more =
      let rest = flat_map all_spans split.parts in
      let whole : a ++ b ≡ split.first ++ (rest ++ b) = ap (λ r. r ++ b) split.whole ∙ append_assoc split.first rest b in
      let outside : t ++ u ≡ split.first ++ (outer split.parts ++ u) = ap (λ r. r ++ u) split.outside ∙ append_assoc split.first (outer split.parts) u in
      subst (λ ts. SplitsInto text (a ++ b) ts) (sym outside) (splits_as text _ _ _ whole (parts_split split.first split.parts b u split.plain split.comments more))

  -- ---- between two places

  -- there are no tokens between a place and itself
  pub between_none : (at : ℕ) → at ≤ length text → AreTokensBetween text at at []
  between_none at within = record { later = omega arith; within = within; passed = []; tokens = []; whole = refl; split = no_runs text; are = refl }

  -- the tokens from one place to a second and then to a third are the tokens from the first to the
  -- third
  pub between_on : {from at end : ℕ} {ws vs : List Name} → AreTokensBetween text from at ws → AreTokensBetween text at end vs → AreTokensBetween text from end (ws ++ vs)
  between_on {from} {at} {end} {ws} {vs} has more = record {
    later = omega (arith, has.later, more.later);
    within = more.within;
    passed = has.passed ++ more.passed;
    tokens = has.tokens ++ more.tokens;
    whole = has.whole ∙ (ap (λ r. has.passed ++ r) more.whole ∙ sym (append_assoc has.passed more.passed (runs_after text end)));
    split = splits_join has.passed has.tokens more.passed more.tokens has.split more.split;
    are = map-append (word text) has.tokens more.tokens ∙ (ap (λ r. r ++ words text more.tokens) has.are ∙ ap (λ r. ws ++ r) more.are);
  }

  -- the same words, given as an equal list
  pub between_as : {from at : ℕ} {ws vs : List Name} → ws ≡ vs → AreTokensBetween text from at ws → AreTokensBetween text from at vs
  between_as {from} {at} e has = subst (λ ws. AreTokensBetween text from at ws) e has

  -- if the runs after two places are the same, there are no tokens between the places
  pub between_runs : (from at : ℕ) → from ≤ at → at ≤ length text → runs_after text from ≡ runs_after text at → AreTokensBetween text from at []
  between_runs from at later within same = record { later = later; within = within; passed = []; tokens = []; whole = same; split = no_runs text; are = refl }

  -- plain runs between two places are the tokens there
  pub between_plain : (from at : ℕ) (front : List Span) → from ≤ at → at ≤ length text → runs_after text from ≡ front ++ runs_after text at → AllPlain text front
      → AreTokensBetween text from at (words text front)
  between_plain from at front later within whole are = record {
    later = later;
    within = within;
    passed = front;
    tokens = front;
    whole = whole;
    split = record { first = front; parts = []; whole = sym (append-nil front); plain = are; comments = tt; outside = sym (append-nil front) };
    are = refl;
  }

  module _ (from : ℕ) (s : Span) (run : runs_after text from ≡ s ∷ runs_after text s.end) (is : IsPartOfRun text s) (later : from ≤ s.start) where
    -- a plain run is one token
    pub between_token : is_plain (word text s) ≡ true → AreTokensBetween text from s.end (word text s ∷ [])
    between_token plain = between_plain from s.end (s ∷ []) (omega (arith, later, is.some)) is.within run (and_from _ _ plain refl)

    -- a comment that begins at this run and is closed has no tokens
    pub between_comment : word text s ≡ opener → (end : ℕ) → IsClosedAt text s.end end → AreTokensBetween text from end []
    between_comment opens end closed = record {
      later = omega (arith, later, is.some, closed.later);
      within = closed.within;
      passed = s ∷ (closed.inside ++ closed.at ∷ []);
      tokens = [];
      whole = run ∙ (ap (λ r. s ∷ r) closed.whole ∙ ap (λ r. s ∷ r) (sym (append_assoc closed.inside (closed.at ∷ []) (runs_after text end))));
      split = with_comment text s closed.at closed.inside [] [] opens closed.plain closed.closes (no_runs text);
      are = refl;
    }

  -- ---- after a place

  -- if no run is left after a place, no token is left
  pub none_after : (at : ℕ) → runs_after text at ≡ [] → AreTokensAfter text at []
  none_after at none = ([], splits_as text (runs_after text at) [] [] none (no_runs text), refl)

  -- the tokens after a place, given as an equal list of words
  pub after_as : (at : ℕ) {ws vs : List Name} → ws ≡ vs → AreTokensAfter text at ws → AreTokensAfter text at vs
  after_as at e are = subst (λ ws. AreTokensAfter text at ws) e are

  module _ {from at : ℕ} {ws : List Name} (has : AreTokensBetween text from at ws) where
    -- the scan from the earlier place on gives the tokens between, and then the result of the scan
    -- from the later place on
    pub between_scan : scan text (runs_after text from) None ≡ prepend has.tokens (scan text (runs_after text at) None)
    between_scan = ap (λ r. scan text r None) has.whole ∙ scan_split text has.passed has.tokens (runs_after text at) has.split

    -- the words after the earlier place are those between the two places and then those after the
    -- later one
    pub after_on : {vs : List Name} → AreTokensAfter text at vs → AreTokensAfter text from (ws ++ vs)
    after_on {vs} are = (
      has.tokens ++ are.0,
      splits_as text _ _ _ has.whole (splits_join has.passed has.tokens (runs_after text at) are.0 has.split are.1),
      map-append (word text) has.tokens are.0 ∙ (ap (λ r. r ++ words text are.0) has.are ∙ ap (λ r. ws ++ r) are.2),
    )

    -- a comment fault of the runs after the later place is one of the runs after the earlier place
    pub stops_on : (offset : ℕ) → IsCommentFaultOfRuns text (runs_after text at) offset → IsCommentFaultOfRuns text (runs_after text from) offset
    stops_on offset is = stops-scan text (runs_after text from) offset (between_scan ∙ ap (prepend has.tokens) (scan-stops text (runs_after text at) offset is))

    -- a comment fault after the later place is one after the earlier place
    pub stops_after : (fault : LexFault) → IsCommentFaultAfter text at fault → IsCommentFaultAfter text from fault
    stops_after (Text offset) is = is
    stops_after (Comment offset) is = stops_on offset is
    stops_after Memory is = is

    -- .. also if an allocation may have failed
    pub fails_after : (fault : LexFault) → IsCommentFaultOrMemoryAfter text at fault → IsCommentFaultOrMemoryAfter text from fault
    fails_after (Text offset) is = is
    fails_after (Comment offset) is = stops_on offset is
    fails_after Memory is = tt

    -- the words after the earlier place are those between the two places and then words after the
    -- later one
    pub after_rest : {vs : List Name} → AreTokensAfter text from vs → (us : List Name) × AreTokensAfter text at us × (vs ≡ ws ++ us)
    after_rest {vs} are = by (scan text (runs_after text at) None) refl
      where
        all : scan text (runs_after text from) None ≡ Ok are.0
        all = scan-split text (runs_after text from) are.0 are.1

        by : (r : Outcome) → scan text (runs_after text at) None ≡ r → (us : List Name) × AreTokensAfter text at us × (vs ≡ ws ++ us)
        by (Ok rest) e =
            let same : ◌≡◌ {A = Outcome} (Ok are.0) (Ok (has.tokens ++ rest)) = sym all ∙ (between_scan ∙ ap (prepend has.tokens) e) in
            let these : are.0 ≡ has.tokens ++ rest = cc in (
              words text rest,
              (rest, split-scan text (runs_after text at) rest e, refl),
              sym are.2 ∙ (ap (words text) these ∙ (map-append (word text) has.tokens rest ∙ ap (λ r. r ++ words text rest) has.are)),
            )
        by (Err offset) e =
            let other : ◌≡◌ {A = Outcome} (Ok are.0) (Err offset) = sym all ∙ (between_scan ∙ ap (prepend has.tokens) e) in cc

  -- the list of words after a place is unique
  pub after_unique : (at : ℕ) {ws vs : List Name} → AreTokensAfter text at ws → AreTokensAfter text at vs → ws ≡ vs
  after_unique at are also =
      let a = scan-split text (runs_after text at) are.0 are.1 in
      let b = scan-split text (runs_after text at) also.0 also.1 in
      let same : are.0 ≡ also.0 = cc in
      sym are.2 ∙ (ap (words text) same ∙ also.2)

-- a comment fault is one also if an allocation may have failed
pub stops_fail : (text : List ℕ) (at : ℕ) (fault : LexFault) → IsCommentFaultAfter text at fault → IsCommentFaultOrMemoryAfter text at fault
stops_fail text at (Text offset) is = is
stops_fail text at (Comment offset) is = is
stops_fail text at Memory is = tt

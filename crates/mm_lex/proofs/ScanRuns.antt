-- The split at the comments, read once from left to right: the scan gives tokens exactly if there
-- is a split, and otherwise the offset of the comment fault.
use Rattle.mm_lex.proofs.Prelude.{◌≡◌, ℕ, Bool, true, false, ◌||◌, List, [], ◌∷◌, ◌++◌, flat_map, Option, Some, None, Result, Ok, Err, refl, sym, ◌∙◌, ap, inl, inr, append_assoc, append-nil, and_parts, or_parts, not-true, Span, name_eq, word, opener, closer, is_plain, AllPlain, CommentAndTokens, all_spans, IsCommentAndTokens, AreCommentsAndTokens, SplitsInto, IsStrayCloser, IsNestedOpener, IsUnclosed, IsCommentFaultOfRuns}

-- the tokens, or the offset at which the scan stops
abbrev pub Outcome : Type 0
Outcome = Result (List Span) ℕ

abbrev pub prepend : List Span → Outcome → Outcome
prepend ts (Ok rest) = Ok (ts ++ rest)
prepend ts (Err offset) = Err offset

-- the result at a run outside comments, by whether the run is a `$(` and whether it is a `$)`
abbrev pub outside : Bool → Bool → Span → Outcome → Outcome → Outcome
outside true c s opened rest = opened
outside false true s opened rest = Err s.start
outside false false s opened rest = prepend (s ∷ []) rest

-- the result at a run inside a comment, by the same two tests
abbrev pub inside : Bool → Bool → Span → Outcome → Outcome → Outcome
inside true c s closed rest = Err s.start
inside false true s closed rest = closed
inside false false s closed rest = rest

-- the runs are read in order, inside a comment that begins at an offset, or outside comments
abbrev pub scan : List ℕ → List Span → Option ℕ → Outcome
scan text [] None = Ok []
scan text [] (Some offset) = Err offset
scan text (s ∷ spans) None =
    outside (name_eq (word text s) opener) (name_eq (word text s) closer) s (scan text spans (Some s.start)) (scan text spans None)
scan text (s ∷ spans) (Some offset) =
    inside (name_eq (word text s) opener) (name_eq (word text s) closer) s (scan text spans None) (scan text spans (Some offset))

pub prepend-nil : (r : Outcome) → prepend [] r ≡ r
prepend-nil (Ok rest) = refl
prepend-nil (Err offset) = refl

pub prepend-append : (xs ys : List Span) (r : Outcome) → prepend xs (prepend ys r) ≡ prepend (xs ++ ys) r
prepend-append xs ys (Ok rest) = ap Ok (sym (append_assoc xs ys rest))
prepend-append xs ys (Err offset) = refl

module _ (text : List ℕ) where
  abbrev pub opens : Span → Bool
  opens s = name_eq (word text s) opener

  abbrev pub closes : Span → Bool
  closes s = name_eq (word text s) closer

  -- ---- one run

  -- outside a comment, at a `$(`: the comment begins
  pub scan_opener : (s : Span) (spans : List Span) → opens s ≡ true → scan text (s ∷ spans) None ≡ scan text spans (Some s.start)
  scan_opener s spans e = rw e refl

  -- outside, at a `$)`: the scan stops there
  pub scan_closer : (s : Span) (spans : List Span) → opens s ≡ false → closes s ≡ true → scan text (s ∷ spans) None ≡ Err s.start
  scan_closer s spans e f = rw (e, f) refl

  -- outside, at a plain run: a token
  pub scan_plain : (s : Span) (spans : List Span) → opens s ≡ false → closes s ≡ false → scan text (s ∷ spans) None ≡ prepend (s ∷ []) (scan text spans None)
  scan_plain s spans e f = rw (e, f) refl

  -- inside a comment, at a `$(`: the scan stops there
  pub scan_nested : (s : Span) (spans : List Span) (offset : ℕ) → opens s ≡ true → scan text (s ∷ spans) (Some offset) ≡ Err s.start
  scan_nested s spans offset e = rw e refl

  -- inside, at a `$)`: the comment ends
  pub scan_closing : (s : Span) (spans : List Span) (offset : ℕ) → opens s ≡ false → closes s ≡ true → scan text (s ∷ spans) (Some offset) ≡ scan text spans None
  scan_closing s spans offset e f = rw (e, f) refl

  -- inside, at a plain run: it is passed over
  pub scan_inside : (s : Span) (spans : List Span) (offset : ℕ) → opens s ≡ false → closes s ≡ false → scan text (s ∷ spans) (Some offset) ≡ scan text spans (Some offset)
  scan_inside s spans offset e f = rw (e, f) refl

  -- a run with the word `$(` passes the test for it
  pub is_opener : (s : Span) → word text s ≡ opener → opens s ≡ true
  is_opener s e = ap (λ w. name_eq w opener) e

  -- a run with the word `$)` passes the test for it
  pub is_closer : (s : Span) → word text s ≡ closer → closes s ≡ true
  is_closer s e = ap (λ w. name_eq w closer) e

  -- a `$)` is not a `$(`
  pub closer_no_opener : (s : Span) → word text s ≡ closer → opens s ≡ false
  closer_no_opener s e = ap (λ w. name_eq w opener) e

  -- ---- many runs

  -- plain runs outside comments are all tokens
  pub scan_all_plain : (xs ys : List Span) → AllPlain text xs → scan text (xs ++ ys) None ≡ prepend xs (scan text ys None)
  scan_all_plain [] ys h = sym (prepend-nil (scan text ys None))
  scan_all_plain (s ∷ xs) ys h =
      let here : is_plain (word text s) ≡ true = (and_parts (is_plain (word text s)) _ h).0 in
      let rest : AllPlain text xs = (and_parts (is_plain (word text s)) _ h).1 in
      let none = or_parts (opens s) (closes s) (not-true (opens s || closes s) here) in
      scan_plain s (xs ++ ys) none.0 none.1
      ∙ (ap (prepend (s ∷ [])) (scan_all_plain xs ys rest) ∙ prepend-append (s ∷ []) xs (scan text ys None))

  -- plain runs inside a comment are passed over
  pub scan_all_inside : (xs ys : List Span) (offset : ℕ) → AllPlain text xs → scan text (xs ++ ys) (Some offset) ≡ scan text ys (Some offset)
  scan_all_inside [] ys offset h = refl
  scan_all_inside (s ∷ xs) ys offset h =
      let here : is_plain (word text s) ≡ true = (and_parts (is_plain (word text s)) _ h).0 in
      let none = or_parts (opens s) (closes s) (not-true (opens s || closes s) here) in
      scan_inside s (xs ++ ys) offset none.0 none.1
      ∙ scan_all_inside xs ys offset (and_parts (is_plain (word text s)) _ h).1

  -- ---- runs that can be split, and then other runs

  -- a comment with plain runs after it gives these runs as tokens
  scan_part : (p : CommentAndTokens) (ys : List Span) → IsCommentAndTokens text p → scan text (all_spans p ++ ys) None ≡ prepend p.after (scan text ys None)
  scan_part p ys is =
      scan_opener p.begin ((p.inside ++ (p.end ∷ p.after)) ++ ys) (is_opener p.begin is.begins)
      ∙ (ap (λ r. scan text r (Some p.begin.start)) (append_assoc p.inside (p.end ∷ p.after) ys)
      ∙ (scan_all_inside p.inside (p.end ∷ (p.after ++ ys)) p.begin.start is.inside
      ∙ (scan_closing p.end (p.after ++ ys) p.begin.start (closer_no_opener p.end is.ends) (is_closer p.end is.ends)
      ∙ scan_all_plain p.after ys is.after)))

  -- .. and a list of comments gives the runs after each
  scan_parts : (ps : List CommentAndTokens) (ys : List Span) → AreCommentsAndTokens text ps → scan text (flat_map all_spans ps ++ ys) None ≡ prepend (flat_map (λ (p : CommentAndTokens). p.after) ps) (scan text ys None)
  scan_parts [] ys h = sym (prepend-nil (scan text ys None))
  scan_parts (p ∷ ps) ys h =
      ap (λ r. scan text r None) (append_assoc (all_spans p) (flat_map all_spans ps) ys)
      ∙ (scan_part p (flat_map all_spans ps ++ ys) h.0
      ∙ (ap (prepend p.after) (scan_parts ps ys h.1)
      ∙ prepend-append p.after (flat_map (λ (p : CommentAndTokens). p.after) ps) (scan text ys None)))

  -- runs that can be split give their tokens, and the scan continues after them
  pub scan_split : (spans tokens ys : List Span) → SplitsInto text spans tokens → scan text (spans ++ ys) None ≡ prepend tokens (scan text ys None)
  scan_split spans tokens ys split =
      let rest = flat_map all_spans split.parts in
      let outer = flat_map (λ (p : CommentAndTokens). p.after) split.parts in
      ap (λ r. scan text r None) (ap (λ r. r ++ ys) split.whole ∙ append_assoc split.first rest ys)
      ∙ (scan_all_plain split.first (rest ++ ys) split.plain
      ∙ (ap (prepend split.first) (scan_parts split.parts ys split.comments)
      ∙ (prepend-append split.first outer (scan text ys None)
      ∙ ap (λ ts. prepend ts (scan text ys None)) (sym split.outside))))

  -- ---- the result of the scan is the only one

  pub scan-split : (spans tokens : List Span) → SplitsInto text spans tokens → scan text spans None ≡ Ok tokens
  scan-split spans tokens split =
      ap (λ r. scan text r None) (sym (append-nil spans)) ∙ (scan_split spans tokens [] split ∙ ap Ok (append-nil tokens))

  -- the scan stops at a `$)` outside comments
  stray : (spans : List Span) (offset : ℕ) → IsStrayCloser text spans offset → scan text spans None ≡ Err offset
  stray spans offset is =
      ap (λ r. scan text r None) is.whole
      ∙ (scan_split is.before is.tokens (is.at ∷ is.rest) is.split
      ∙ (ap (prepend is.tokens) (scan_closer is.at is.rest (closer_no_opener is.at is.closes) (is_closer is.at is.closes))
      ∙ ap Err is.place))

  -- the scan stops at a `$(` inside a comment
  nested : (spans : List Span) (offset : ℕ) → IsNestedOpener text spans offset → scan text spans None ≡ Err offset
  nested spans offset is =
      ap (λ r. scan text r None) is.whole
      ∙ (scan_split is.before is.tokens (is.outer ∷ (is.inside ++ is.at ∷ is.rest)) is.split
      ∙ (ap (prepend is.tokens) (scan_opener is.outer (is.inside ++ is.at ∷ is.rest) (is_opener is.outer is.opens)
      ∙ (scan_all_inside is.inside (is.at ∷ is.rest) is.outer.start is.plain
      ∙ scan_nested is.at is.rest is.outer.start (is_opener is.at is.opens_again)))
      ∙ ap Err is.place))

  -- the scan stops at the `$(` of a comment that is never closed
  unclosed : (spans : List Span) (offset : ℕ) → IsUnclosed text spans offset → scan text spans None ≡ Err offset
  unclosed spans offset is =
      ap (λ r. scan text r None) is.whole
      ∙ (scan_split is.before is.tokens (is.at ∷ is.inside) is.split
      ∙ (ap (prepend is.tokens) (scan_opener is.at is.inside (is_opener is.at is.opens)
      ∙ (ap (λ r. scan text r (Some is.at.start)) (sym (append-nil is.inside))
      ∙ scan_all_inside is.inside [] is.at.start is.plain))
      ∙ ap Err is.place))

  pub scan-stops : (spans : List Span) (offset : ℕ) → IsCommentFaultOfRuns text spans offset → scan text spans None ≡ Err offset
  scan-stops spans offset (inl is) = stray spans offset is
  scan-stops spans offset (inr (inl is)) = nested spans offset is
  scan-stops spans offset (inr (inr is)) = unclosed spans offset is

-- The result of the scan of a list of runs is right: it is the tokens of a split, or the offset of
-- the comment fault.
use Rattle.mm_lex.proofs.Prelude.{◌≡◌, ℕ, Bool, true, false, ◌⊎◌, List, [], ◌∷◌, ◌++◌, flat_map, Option, Some, None, Ok, Err, refl, sym, ◌∙◌, ap, inl, inr, append_assoc, bytes_eq-Decides, and_from, Span, name_eq, word, opener, closer, is_plain, AllPlain, CommentAndTokens, all_spans, SplitsInto, IsCommentFaultOfRuns}
use Rattle.mm_lex.proofs.ScanRuns.{Outcome, prepend, outside, inside, scan}

module _ (text : List ℕ) where
  abbrev opens : Span → Bool
  opens s = name_eq (word text s) opener

  abbrev closes : Span → Bool
  closes s = name_eq (word text s) closer

  -- a run that neither opens nor closes a comment is plain
  pub plain : (s : Span) → opens s ≡ false → closes s ≡ false → is_plain (word text s) ≡ true
  plain s e f = rw (e, f) refl

  -- ---- splits

  -- the empty list of runs splits into no tokens
  pub no_runs : SplitsInto text [] []
  no_runs = record { first = []; parts = []; whole = refl; plain = refl; comments = tt; outside = refl }

  -- a plain run before a split is one more token
  pub with_plain : (s : Span) (spans tokens : List Span) → is_plain (word text s) ≡ true → SplitsInto text spans tokens → SplitsInto text (s ∷ spans) (s ∷ tokens)
  with_plain s spans tokens is split = record {
    first = s ∷ split.first;
    parts = split.parts;
    whole = ap (λ r. s ∷ r) split.whole;
    plain = and_from (is_plain (word text s)) _ is split.plain;
    comments = split.comments;
    outside = ap (λ r. s ∷ r) split.outside;
  }

  -- a comment before a split leaves the tokens as they are
  pub with_comment : (begin end : Span) (inner spans tokens : List Span) → word text begin ≡ opener → AllPlain text inner → word text end ≡ closer
      → SplitsInto text spans tokens → SplitsInto text (begin ∷ (inner ++ end ∷ spans)) tokens
  with_comment begin end inner spans tokens is_begin are is_end split =
      let p : CommentAndTokens = record { begin = begin; inside = inner; end = end; after = split.first } in
      let rest = flat_map all_spans split.parts in record {
        first = [];
        parts = p ∷ split.parts;
        whole = ap (λ r. begin ∷ (inner ++ end ∷ r)) split.whole ∙ ap (λ r. begin ∷ r) (sym (append_assoc inner (end ∷ split.first) rest));
        plain = refl;
        comments = (record { begins = is_begin; inside = are; ends = is_end; after = split.plain }, split.comments);
        outside = split.outside;
      }

  -- a split of an equal list of runs
  pub splits_as : (spans same tokens : List Span) → spans ≡ same → SplitsInto text same tokens → SplitsInto text spans tokens
  splits_as spans same tokens e split = record {
    first = split.first;
    parts = split.parts;
    whole = e ∙ split.whole;
    plain = split.plain;
    comments = split.comments;
    outside = split.outside;
  }

  -- ---- a comment fault after runs that can be split

  -- runs that can come before any split, and their tokens
  abbrev IsFront : List Span → List Span → Type 0
  IsFront front out = (spans tokens : List Span) → SplitsInto text spans tokens → SplitsInto text (front ++ spans) (out ++ tokens)

  -- a comment fault of the runs after such a front is a comment fault of all the runs
  later_stop : (front out : List Span) → IsFront front out → (spans : List Span) (offset : ℕ) → IsCommentFaultOfRuns text spans offset → IsCommentFaultOfRuns text (front ++ spans) offset
  later_stop front out is_front spans offset (inl is) = inl (record {
    before = front ++ is.before;
    tokens = out ++ is.tokens;
    at = is.at;
    rest = is.rest;
    whole = ap (λ r. front ++ r) is.whole ∙ sym (append_assoc front is.before (is.at ∷ is.rest));
    split = is_front is.before is.tokens is.split;
    closes = is.closes;
    place = is.place;
  })
  later_stop front out is_front spans offset (inr (inl is)) = inr (inl (record {
    before = front ++ is.before;
    tokens = out ++ is.tokens;
    outer = is.outer;
    inside = is.inside;
    at = is.at;
    rest = is.rest;
    whole = ap (λ r. front ++ r) is.whole ∙ sym (append_assoc front is.before (is.outer ∷ (is.inside ++ is.at ∷ is.rest)));
    split = is_front is.before is.tokens is.split;
    opens = is.opens;
    plain = is.plain;
    opens_again = is.opens_again;
    place = is.place;
  }))
  later_stop front out is_front spans offset (inr (inr is)) = inr (inr (record {
    before = front ++ is.before;
    tokens = out ++ is.tokens;
    at = is.at;
    inside = is.inside;
    whole = ap (λ r. front ++ r) is.whole ∙ sym (append_assoc front is.before (is.at ∷ is.inside));
    split = is_front is.before is.tokens is.split;
    opens = is.opens;
    plain = is.plain;
    place = is.place;
  }))

  -- a plain run is such a front, with itself as its token
  plain_front : (s : Span) → is_plain (word text s) ≡ true → IsFront (s ∷ []) (s ∷ [])
  plain_front s is spans tokens split = with_plain s spans tokens is split

  -- a whole comment is such a front, without tokens
  comment_front : (begin end : Span) (inner : List Span) → word text begin ≡ opener → AllPlain text inner → word text end ≡ closer → IsFront (begin ∷ (inner ++ end ∷ [])) []
  comment_front begin end inner is_begin are is_end spans tokens split =
      splits_as _ _ tokens (ap (λ r. begin ∷ r) (append_assoc inner (end ∷ []) spans)) (with_comment begin end inner spans tokens is_begin are is_end split)

  -- ---- inside a comment

  -- these runs close the comment, and the runs after it split into the tokens
  record Closes (spans tokens : List Span) : Type 0 where
    inner : List Span
    end : Span
    rest : List Span
    whole : spans ≡ inner ++ end ∷ rest
    plain : AllPlain text inner
    ends : word text end ≡ closer
    split : SplitsInto text rest tokens

  -- these runs have another `$(` before they close the comment
  record Nests (spans : List Span) (offset : ℕ) : Type 0 where
    inner : List Span
    at : Span
    rest : List Span
    whole : spans ≡ inner ++ at ∷ rest
    plain : AllPlain text inner
    opens_again : word text at ≡ opener
    place : at.start ≡ offset

  -- these runs close the comment, and the runs after it have a comment fault
  record StopsLater (spans : List Span) (offset : ℕ) : Type 0 where
    inner : List Span
    end : Span
    rest : List Span
    whole : spans ≡ inner ++ end ∷ rest
    plain : AllPlain text inner
    ends : word text end ≡ closer
    stops : IsCommentFaultOfRuns text rest offset

  abbrev Fails : List Span → ℕ → ℕ → Type 0
  Fails spans from offset = Nests spans offset ⊎ (AllPlain text spans × (from ≡ offset)) ⊎ StopsLater spans offset

  abbrev Meaning : List Span → Option ℕ → Outcome → Type 0
  Meaning spans None (Ok tokens) = SplitsInto text spans tokens
  Meaning spans None (Err offset) = IsCommentFaultOfRuns text spans offset
  Meaning spans (Some from) (Ok tokens) = Closes spans tokens
  Meaning spans (Some from) (Err offset) = Fails spans from offset

  -- ---- one more run

  module _ (s : Span) (spans : List Span) where
    -- if the first run is a `$(`, a right result of the scan inside its comment is right for all
    -- the runs
    opened : word text s ≡ opener → (r : Outcome) → Meaning spans (Some s.start) r → Meaning (s ∷ spans) None r
    opened is (Ok tokens) m =
        splits_as _ _ tokens (ap (λ r. s ∷ r) m.whole) (with_comment s m.end m.inner m.rest tokens is m.plain m.ends m.split)
    opened is (Err offset) (inl m) = inr (inl (record {
      before = [];
      tokens = [];
      outer = s;
      inside = m.inner;
      at = m.at;
      rest = m.rest;
      whole = ap (λ r. s ∷ r) m.whole;
      split = no_runs;
      opens = is;
      plain = m.plain;
      opens_again = m.opens_again;
      place = m.place;
    }))
    opened is (Err offset) (inr (inl m)) = inr (inr (record {
      before = [];
      tokens = [];
      at = s;
      inside = spans;
      whole = refl;
      split = no_runs;
      opens = is;
      plain = m.0;
      place = m.1;
    }))
    opened is (Err offset) (inr (inr m)) =
        let whole : s ∷ spans ≡ (s ∷ (m.inner ++ m.end ∷ [])) ++ m.rest = ap (λ r. s ∷ r) (m.whole ∙ sym (append_assoc m.inner (m.end ∷ []) m.rest)) in
        rw whole (later_stop (s ∷ (m.inner ++ m.end ∷ [])) [] (comment_front s m.end m.inner is m.plain m.ends) m.rest offset m.stops)

    -- a plain run outside comments is one more token
    passed : is_plain (word text s) ≡ true → (r : Outcome) → Meaning spans None r → Meaning (s ∷ spans) None (prepend (s ∷ []) r)
    passed is (Ok tokens) m = with_plain s spans tokens is m
    passed is (Err offset) m = later_stop (s ∷ []) (s ∷ []) (plain_front s is) spans offset m

    -- one more run outside comments, by whether it is a `$(`, a `$)` or plain
    out_step : (a b : Bool) → opens s ≡ a → closes s ≡ b → (r t : Outcome) → Meaning spans (Some s.start) r → Meaning spans None t
        → Meaning (s ∷ spans) None (outside a b s r t)
    out_step true b e f r t m k = opened ((bytes_eq-Decides _ _).0 e) r m
    out_step false true e f r t m k =
        inl (record { before = []; tokens = []; at = s; rest = spans; whole = refl; split = no_runs; closes = (bytes_eq-Decides _ _).0 f; place = refl })
    out_step false false e f r t m k = passed (plain s e f) t k

    -- if the first run is a `$)` inside a comment, a right result of the scan after it is right for
    -- all the runs
    closed : word text s ≡ closer → (from : ℕ) (r : Outcome) → Meaning spans None r → Meaning (s ∷ spans) (Some from) r
    closed is from (Ok tokens) m = record { inner = []; end = s; rest = spans; whole = refl; plain = refl; ends = is; split = m }
    closed is from (Err offset) m = inr (inr (record { inner = []; end = s; rest = spans; whole = refl; plain = refl; ends = is; stops = m }))

    -- a plain run inside a comment leaves the result right
    skipped : is_plain (word text s) ≡ true → (from : ℕ) (r : Outcome) → Meaning spans (Some from) r → Meaning (s ∷ spans) (Some from) r
    skipped is from (Ok tokens) m = record {
      inner = s ∷ m.inner;
      end = m.end;
      rest = m.rest;
      whole = ap (λ r. s ∷ r) m.whole;
      plain = and_from _ _ is m.plain;
      ends = m.ends;
      split = m.split;
    }
    skipped is from (Err offset) (inl m) = inl (record {
      inner = s ∷ m.inner;
      at = m.at;
      rest = m.rest;
      whole = ap (λ r. s ∷ r) m.whole;
      plain = and_from _ _ is m.plain;
      opens_again = m.opens_again;
      place = m.place;
    })
    skipped is from (Err offset) (inr (inl m)) = inr (inl (and_from _ _ is m.0, m.1))
    skipped is from (Err offset) (inr (inr m)) = inr (inr (record {
      inner = s ∷ m.inner;
      end = m.end;
      rest = m.rest;
      whole = ap (λ r. s ∷ r) m.whole;
      plain = and_from _ _ is m.plain;
      ends = m.ends;
      stops = m.stops;
    }))

    -- one more run inside a comment, by whether it is a `$(`, a `$)` or plain
    in_step : (from : ℕ) (a b : Bool) → opens s ≡ a → closes s ≡ b → (r t : Outcome) → Meaning spans None r → Meaning spans (Some from) t
        → Meaning (s ∷ spans) (Some from) (inside a b s r t)
    in_step from true b e f r t m k =
        inl (record { inner = []; at = s; rest = spans; whole = refl; plain = refl; opens_again = (bytes_eq-Decides _ _).0 e; place = refl })
    in_step from false true e f r t m k = closed ((bytes_eq-Decides _ _).0 f) from r m
    in_step from false false e f r t m k = skipped (plain s e f) from t k

  -- the result of the scan is right, outside comments and inside one
  means : (spans : List Span) (from : Option ℕ) → Meaning spans from (scan text spans from)
  means [] None = no_runs
  means [] (Some from) = inr (inl (refl, refl))
  means (s ∷ spans) None =
      out_step s spans (opens s) (closes s) refl refl (scan text spans (Some s.start)) (scan text spans None) (means spans (Some s.start)) (means spans None)
  means (s ∷ spans) (Some from) =
      in_step s spans from (opens s) (closes s) refl refl (scan text spans None) (scan text spans (Some from)) (means spans None) (means spans (Some from))

  pub split-scan : (spans tokens : List Span) → scan text spans None ≡ Ok tokens → SplitsInto text spans tokens
  split-scan spans tokens e = rw e at (means spans None)

  pub stops-scan : (spans : List Span) (offset : ℕ) → scan text spans None ≡ Err offset → IsCommentFaultOfRuns text spans offset
  stops-scan spans offset e = rw e at (means spans None)

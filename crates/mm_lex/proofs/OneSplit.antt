-- The split at the comments is unique: a list of plain runs ends at the first run that is not
-- plain.
use Rattle.mm_lex.proofs.Prelude.{◌≡◌, ℕ, true, false, List, [], ◌∷◌, ◌++◌, flat_map, refl, sym, ◌∙◌, ap, true≢false, append_assoc, and_parts, Span, word, opener, closer, is_plain, AllPlain, CommentAndTokens, all_spans, AreCommentsAndTokens, SplitsInto}

module _ (text : List ℕ) where
  -- the list is empty, or begins with a run that is not plain
  abbrev BeginsMarked : List Span → Type 0
  BeginsMarked [] = Unit {0}
  BeginsMarked (s ∷ spans) = is_plain (word text s) ≡ false

  record SameSplit (xs ys rs ss : List Span) : Type 0 where
    front : xs ≡ ys
    back : rs ≡ ss

  -- a plain run is not equal to one that is not plain
  unmarked : (s t : Span) → s ≡ t → is_plain (word text s) ≡ true → is_plain (word text t) ≡ false → ⊥
  unmarked s t e h k = true≢false (sym h ∙ (ap (λ u. is_plain (word text u)) e ∙ k))

  -- a list has only one split into plain runs and a rest that is empty or begins with a run that is
  -- not plain
  same_split : (xs ys rs ss : List Span) → AllPlain text xs → AllPlain text ys → BeginsMarked rs → BeginsMarked ss → xs ++ rs ≡ ys ++ ss → SameSplit xs ys rs ss
  same_split [] [] rs ss h k m n e = record { front = refl; back = e }
  same_split [] (y ∷ ys) [] ss h k m n e = cc
  same_split [] (y ∷ ys) (r ∷ rs) ss h k m n e =
      let same : r ≡ y = cc in absurd (unmarked y r (sym same) (and_parts (is_plain (word text y)) _ k).0 m)
  same_split (x ∷ xs) [] rs [] h k m n e = cc
  same_split (x ∷ xs) [] rs (s ∷ ss) h k m n e =
      let same : x ≡ s = cc in absurd (unmarked x s same (and_parts (is_plain (word text x)) _ h).0 n)
  same_split (x ∷ xs) (y ∷ ys) rs ss h k m n e =
      let first : x ≡ y = cc in
      let rest : xs ++ rs ≡ ys ++ ss = cc in
      let more = same_split xs ys rs ss (and_parts (is_plain (word text x)) _ h).1 (and_parts (is_plain (word text y)) _ k).1 m n rest in
      record { front = let front = more.front in cc; back = more.back }

  -- a `$(` is not plain
  marked_opener : (s : Span) → word text s ≡ opener → is_plain (word text s) ≡ false
  marked_opener s e = ap is_plain e

  -- a `$)` is not plain
  marked_closer : (s : Span) → word text s ≡ closer → is_plain (word text s) ≡ false
  marked_closer s e = ap is_plain e

  -- the runs of some comments begin with a `$(`, or there are none
  marked_parts : (ps : List CommentAndTokens) → AreCommentsAndTokens text ps → BeginsMarked (flat_map all_spans ps)
  marked_parts [] are = tt
  marked_parts (p ∷ ps) are = marked_opener p.begin are.0.begins

  -- two comments, with the runs after them, are equal if their four parts are
  same_part : (p q : CommentAndTokens) → p.begin ≡ q.begin → p.inside ≡ q.inside → p.end ≡ q.end → p.after ≡ q.after → p ≡ q
  same_part p q b i e a =
      ap (λ x. record { begin = x; inside = p.inside; end = p.end; after = p.after }) b
      ∙ (ap (λ x. record { begin = q.begin; inside = x; end = p.end; after = p.after }) i
      ∙ (ap (λ x. record { begin = q.begin; inside = q.inside; end = x; after = p.after }) e
      ∙ ap (λ x. record { begin = q.begin; inside = q.inside; end = q.end; after = x }) a))

  -- two lists of comments, with the runs after each, are equal if they have the same runs
  same_parts : (ps qs : List CommentAndTokens) → AreCommentsAndTokens text ps → AreCommentsAndTokens text qs → flat_map all_spans ps ≡ flat_map all_spans qs → ps ≡ qs
  same_parts [] [] are also e = refl
  same_parts [] (q ∷ qs) are also e = cc
  same_parts (p ∷ ps) [] are also e = cc
  same_parts (p ∷ ps) (q ∷ qs) are also e =
      let begins : p.begin ≡ q.begin = cc in
      let tails : (p.inside ++ (p.end ∷ p.after)) ++ flat_map all_spans ps ≡ (q.inside ++ (q.end ∷ q.after)) ++ flat_map all_spans qs = cc in
      let joined : p.inside ++ (p.end ∷ (p.after ++ flat_map all_spans ps)) ≡ q.inside ++ (q.end ∷ (q.after ++ flat_map all_spans qs)) =
      sym (append_assoc p.inside (p.end ∷ p.after) (flat_map all_spans ps)) ∙ (tails ∙ append_assoc q.inside (q.end ∷ q.after) (flat_map all_spans qs)) in
      let inner = same_split p.inside q.inside (p.end ∷ (p.after ++ flat_map all_spans ps)) (q.end ∷ (q.after ++ flat_map all_spans qs)) are.0.inside also.0.inside
      (marked_closer p.end are.0.ends) (marked_closer q.end also.0.ends) joined in
      let back = inner.back in
      let ends : p.end ≡ q.end = cc in
      let tails_after : p.after ++ flat_map all_spans ps ≡ q.after ++ flat_map all_spans qs = cc in
      let outer = same_split p.after q.after (flat_map all_spans ps) (flat_map all_spans qs) are.0.after also.0.after (marked_parts ps are.1) (marked_parts qs also.1) tails_after in
      let rest = same_parts ps qs are.1 also.1 outer.back in
      let insides = inner.front in
      let afters = outer.front in
      let same : p ≡ q = same_part p q begins insides ends afters in cc

  -- two splits of the same runs have the same first runs and the same comments
  pub same_first : (spans a b : List Span) (split : SplitsInto text spans a) (other : SplitsInto text spans b) → (split.first ≡ other.first) × (split.parts ≡ other.parts)
  same_first spans a b split other =
      let halves = same_split split.first other.first (flat_map all_spans split.parts) (flat_map all_spans other.parts) split.plain other.plain
      (marked_parts split.parts split.comments) (marked_parts other.parts other.comments) (sym split.whole ∙ other.whole) in
      (halves.front, same_parts split.parts other.parts split.comments other.comments halves.back)

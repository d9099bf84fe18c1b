-- Texts of several lines: the lines before a word, or a number of bytes.
use Rattle.commands.proofs.Words.{◌≡◌, ℕ, ◌+◌, ◌-◌, ◌<◌, ◌≤◌, ◌==◌, Bool, true, false, cond, List, [], ◌∷◌, ◌++◌, Option, Some, None, option_map, slice_index, count_by, if◌then◌else◌, refl, slice_split, onto_first, join_with_byte, bytes_eq, sym, ◌∙◌, ap, arith, length, take, drop, get_or, append_assoc, append-nil, length-append, length-drop, suc, take_at, drop_at, take-append-drop, drop_more, take_all, length-take-le, count_by-le-length, join_with_byte-slice_split, slice_split-cons_yes, slice_split-cons_no, length-slice_split, eqb-true, LINE_FEED, split_at, RemainingLines, IsAdvanced, lines_before, first_bytes, bytes_before}

-- lines, each followed by a line feed
abbrev pub with_feeds : List (List ℕ) → List ℕ
with_feeds [] = []
with_feeds (line ∷ lines) = line ++ LINE_FEED ∷ with_feeds lines

-- the text that is found after these lines, with them in front
abbrev pub passed_by : List (List ℕ) → Option (List ℕ × ℕ) → Option (List ℕ × ℕ)
passed_by front found = option_map (λ t. (with_feeds front ++ t.0, t.1 + length front)) found

passed_by-none : (found : Option (List ℕ × ℕ)) → found ≡ passed_by [] found
passed_by-none None = refl
passed_by-none (Some t) = ap (λ k. Some (t.0, k)) (let e : t.1 ≡ t.1 + 0 = omega arith in e)

with_feeds-more : (front : List (List ℕ)) (line rest : List ℕ) → with_feeds front ++ (line ++ LINE_FEED ∷ rest) ≡ with_feeds (front ++ line ∷ []) ++ rest
with_feeds-more [] line rest = sym (append_assoc line (LINE_FEED ∷ []) rest)
with_feeds-more (x ∷ front) line rest =
    append_assoc x (LINE_FEED ∷ with_feeds front) (line ++ LINE_FEED ∷ rest)
    ∙ (ap (λ l. x ++ LINE_FEED ∷ l) (with_feeds-more front line rest)
    ∙ sym (append_assoc x (LINE_FEED ∷ with_feeds (front ++ line ∷ [])) rest))

length-more : (front : List (List ℕ)) (line : List ℕ) → length (front ++ line ∷ []) ≡ length front + 1
length-more front line = length-append front (line ∷ [])

passed_by-more : (front : List (List ℕ)) (line : List ℕ) (found : Option (List ℕ × ℕ))
    → passed_by front (option_map (λ t. (line ++ LINE_FEED ∷ t.0, t.1 + 1)) found) ≡ passed_by (front ++ line ∷ []) found
passed_by-more front line None = refl
passed_by-more front line (Some t) =
    let texts : with_feeds front ++ (line ++ LINE_FEED ∷ t.0) ≡ with_feeds (front ++ line ∷ []) ++ t.0 = with_feeds-more front line t.0 in
    let counts : t.1 + 1 + length front ≡ t.1 + length (front ++ line ∷ []) = omega (arith, length-more front line) in
    ap (λ text. Some (text, t.1 + 1 + length front)) texts ∙ ap (λ k. Some (with_feeds (front ++ line ∷ []) ++ t.0, k)) counts

-- the bytes of lines: those of the first lines with their line feeds, and those of the others
join-passed : (front : List (List ℕ)) (line : List ℕ) (left : List (List ℕ))
    → join_with_byte LINE_FEED (front ++ line ∷ left) ≡ with_feeds front ++ join_with_byte LINE_FEED (line ∷ left)
join-passed [] line left = refl
join-passed (x ∷ []) line left = sym (append_assoc x (LINE_FEED ∷ []) (join_with_byte LINE_FEED (line ∷ left)))
join-passed (x ∷ y ∷ front) line left =
    ap (λ l. x ++ LINE_FEED ∷ l) (join-passed (y ∷ front) line left)
    ∙ sym (append_assoc x (LINE_FEED ∷ with_feeds (y ∷ front)) (join_with_byte LINE_FEED (line ∷ left)))

length-join-le : (line : List ℕ) (left : List (List ℕ)) → length line ≤ length (join_with_byte LINE_FEED (line ∷ left))
length-join-le line [] = omega arith
length-join-le line (x ∷ left) = omega (arith, length-append line (LINE_FEED ∷ join_with_byte LINE_FEED (x ∷ left)))

-- the lines that were passed, none of which is the word, and those that are left
pub record IsPassed (word bytes : List ℕ) (rest : List (List ℕ)) (len count : ℕ) : Type 0 where
  pub front : List (List ℕ)
  pub whole : split_at LINE_FEED bytes ≡ front ++ rest
  pub size : len ≡ length (with_feeds front)
  pub counts : count ≡ length front
  pub says : lines_before word (split_at LINE_FEED bytes) ≡ passed_by front (lines_before word rest)

pub passed_none : (word bytes : List ℕ) (rest : List (List ℕ)) → rest ≡ split_at LINE_FEED bytes → IsPassed word bytes rest 0 0
passed_none word bytes rest all = record {
  front = [];
  whole = sym all;
  size = refl;
  counts = refl;
  says = ap (lines_before word) (sym all) ∙ passed_by-none (lines_before word rest);
}

module _ {word bytes : List ℕ} {rest : List (List ℕ)} {len count : ℕ} (so : IsPassed word bytes rest len count)
    (line : List ℕ) (left : List (List ℕ)) (is : rest ≡ line ∷ left) where
  all_lines : split_at LINE_FEED bytes ≡ so.front ++ line ∷ left
  all_lines = so.whole ∙ ap (λ r. so.front ++ r) is

  all_bytes : bytes ≡ with_feeds so.front ++ join_with_byte LINE_FEED (line ∷ left)
  all_bytes = sym (join_with_byte-slice_split LINE_FEED bytes) ∙ (ap (join_with_byte LINE_FEED) all_lines ∙ join-passed so.front line left)

  -- the line ends within the bytes
  pub passed_fits : len + length line ≤ length bytes
  passed_fits =
      let total : length bytes ≡ length (with_feeds so.front) + length (join_with_byte LINE_FEED (line ∷ left))
      = ap length all_bytes ∙ length-append (with_feeds so.front) (join_with_byte LINE_FEED (line ∷ left)) in
      let own = length-join-le line left in let size = so.size in omega arith

  pub passed_few : count + 1 ≤ length bytes + 1
  passed_few =
      let total : length (split_at LINE_FEED bytes) ≡ length so.front + length (line ∷ left) = ap length all_lines ∙ length-append so.front (line ∷ left) in
      let most : length (split_at LINE_FEED bytes) ≤ length bytes + 1
      = omega (arith, length-slice_split (λ b. b == LINE_FEED) bytes, count_by-le-length (λ b. b == LINE_FEED) bytes) in
      let counts = so.counts in
      let own : length (line ∷ left) ≡ suc (length left) = refl in
      omega arith

  step_says : lines_before word (split_at LINE_FEED bytes) ≡ passed_by so.front (lines_before word (line ∷ left))
  step_says = so.says ∙ ap (λ r. passed_by so.front (lines_before word r)) is

  -- a line that is not the word
  pub passed_more : bytes_eq line word ≡ false → IsPassed word bytes left (len + (length line + 1)) (count + 1)
  passed_more other = record {
    front = so.front ++ line ∷ [];
    whole = all_lines ∙ sym (append_assoc so.front (line ∷ []) left);
    size =
        let more : with_feeds so.front ++ (line ++ LINE_FEED ∷ []) ≡ with_feeds (so.front ++ line ∷ []) ++ [] = with_feeds-more so.front line [] in
        let lengths : length (with_feeds so.front) + (length line + 1) ≡ length (with_feeds (so.front ++ line ∷ [])) + 0
        = sym (length-append (with_feeds so.front) (line ++ LINE_FEED ∷ []) ∙ ap (λ n. length (with_feeds so.front) + n) (length-append line (LINE_FEED ∷ [])))
        ∙ (ap length more ∙ length-append (with_feeds (so.front ++ line ∷ [])) []) in
        let size = so.size in omega arith;
    counts = let counts = so.counts in omega (arith, length-more so.front line);
    says =
        let at : lines_before word (line ∷ left) ≡ option_map (λ t. (line ++ LINE_FEED ∷ t.0, t.1 + 1)) (lines_before word left)
        = ap (λ b. if b then Some ([], 1) else option_map (λ t. (line ++ LINE_FEED ∷ t.0, t.1 + 1)) (lines_before word left)) other in
        step_says ∙ (ap (passed_by so.front) at ∙ passed_by-more so.front line (lines_before word left));
  }

  -- the line that is the word
  pub found_text : bytes_eq line word ≡ true → lines_before word (split_at LINE_FEED bytes) ≡ Some (take len bytes, count + 1)
  found_text same =
      let at : lines_before word (line ∷ left) ≡ Some ([], 1)
      = ap (λ b. if b then Some ([], 1) else option_map (λ t. (line ++ LINE_FEED ∷ t.0, t.1 + 1)) (lines_before word left)) same in
      let text : with_feeds so.front ++ [] ≡ take len bytes
      = append-nil (with_feeds so.front) ∙ sym (ap (take len) all_bytes ∙ take_at (with_feeds so.front) (join_with_byte LINE_FEED (line ∷ left)) len (sym so.size)) in
      let number : 1 + length so.front ≡ count + 1 = let counts = so.counts in omega arith in
      step_says ∙ (ap (passed_by so.front) at ∙ (ap (λ t. Some (t, 1 + length so.front)) text ∙ ap (λ k. Some (take len bytes, k)) number))

  pub found_rest : left ≡ drop (count + 1) (split_at LINE_FEED bytes)
  found_rest =
      let at : split_at LINE_FEED bytes ≡ (so.front ++ line ∷ []) ++ left = all_lines ∙ sym (append_assoc so.front (line ∷ []) left) in
      let counts = so.counts in
      sym (ap (drop (count + 1)) at ∙ drop_at (so.front ++ line ∷ []) left (count + 1) (omega (arith, length-more so.front line)))

  pub found_few : count + 1 ≤ length (split_at LINE_FEED bytes)
  found_few =
      let total : length (split_at LINE_FEED bytes) ≡ length so.front + length (line ∷ left) = ap length all_lines ∙ length-append so.front (line ∷ left) in
      let counts = so.counts in
      let own : length (line ∷ left) ≡ suc (length left) = refl in
      omega arith

-- if no line is left, no line is the word
pub found_none : {word bytes : List ℕ} {rest : List (List ℕ)} {len count : ℕ} → IsPassed word bytes rest len count → rest ≡ [] → lines_before word (split_at LINE_FEED bytes) ≡ None
found_none {word = word} so none = so.says ∙ ap (λ r. passed_by so.front (lines_before word r)) none

-- at most as many lines are left as there are
pub passed_fewer : {word bytes : List ℕ} {rest : List (List ℕ)} {len count : ℕ} → IsPassed word bytes rest len count → length rest ≤ length (split_at LINE_FEED bytes)
passed_fewer {rest = rest} so = let total = ap length so.whole ∙ length-append so.front rest in omega arith

-- a text of a number of bytes

split_nonempty : (bytes : List ℕ) → 0 < length (split_at LINE_FEED bytes)
split_nonempty bytes = omega (arith, length-slice_split (λ b. b == LINE_FEED) bytes)

onto_first-append : (x : ℕ) (parts more : List (List ℕ)) → 0 < length parts → onto_first x (parts ++ more) ≡ onto_first x parts ++ more
onto_first-append x [] more some = absurd (omega arith)
onto_first-append x (part ∷ parts) more some = refl

-- the lines of two texts with a line feed between them, by the first byte
split_two_more : (x : ℕ) (xs ys : List ℕ) (b : Bool) → (x == LINE_FEED) ≡ b
    → split_at LINE_FEED (xs ++ LINE_FEED ∷ ys) ≡ split_at LINE_FEED xs ++ split_at LINE_FEED ys
    → split_at LINE_FEED ((x ∷ xs) ++ LINE_FEED ∷ ys) ≡ split_at LINE_FEED (x ∷ xs) ++ split_at LINE_FEED ys
split_two_more x xs ys true e more =
    slice_split-cons_yes (λ b. b == LINE_FEED) x (xs ++ LINE_FEED ∷ ys) e
    ∙ (ap (λ l. [] ∷ l) more
    ∙ sym (ap (λ l. l ++ split_at LINE_FEED ys) (slice_split-cons_yes (λ b. b == LINE_FEED) x xs e)))
split_two_more x xs ys false e more =
    slice_split-cons_no (λ b. b == LINE_FEED) x (xs ++ LINE_FEED ∷ ys) e
    ∙ (ap (onto_first x) more
    ∙ (onto_first-append x (split_at LINE_FEED xs) (split_at LINE_FEED ys) (split_nonempty xs)
    ∙ sym (ap (λ l. l ++ split_at LINE_FEED ys) (slice_split-cons_no (λ b. b == LINE_FEED) x xs e))))

pub split_two : (xs ys : List ℕ) → split_at LINE_FEED (xs ++ LINE_FEED ∷ ys) ≡ split_at LINE_FEED xs ++ split_at LINE_FEED ys
split_two [] ys = refl
split_two (x ∷ xs) ys = split_two_more x xs ys (x == LINE_FEED) refl (split_two xs ys)

-- the bytes before a place, the line feed there, and those after it
at_index : (n : ℕ) (bytes : List ℕ) → n < length bytes → get_or bytes n 0 ≡ LINE_FEED → bytes ≡ take n bytes ++ LINE_FEED ∷ drop (n + 1) bytes
at_index n bytes inside feed =
    sym (take-append-drop n bytes) ∙ ap (λ l. take n bytes ++ l) (drop_more bytes n 0 inside ∙ ap (λ b. b ∷ drop (n + 1) bytes) feed)

module _ (n : ℕ) (bytes : List ℕ) where
  bytes_said : bytes_before n (split_at LINE_FEED bytes) ≡ first_bytes n bytes
  bytes_said = ap (first_bytes n) (join_with_byte-slice_split LINE_FEED bytes)

  first_bytes-by : (b : Bool) → (get_or bytes n 0 == LINE_FEED) ≡ b
      → first_bytes n bytes ≡ (if b then Some (take n bytes, count_by (λ b. b == LINE_FEED) (take n bytes) + 1) else None)
  first_bytes-by b e = ap (λ b. if b then Some (take n bytes, count_by (λ b. b == LINE_FEED) (take n bytes) + 1) else None) e

  pub bytes_found : (get_or bytes n 0 == LINE_FEED) ≡ true
      → bytes_before n (split_at LINE_FEED bytes) ≡ Some (take n bytes, count_by (λ b. b == LINE_FEED) (take n bytes) + 1)
  bytes_found e = bytes_said ∙ first_bytes-by true e

  pub bytes_missing : (get_or bytes n 0 == LINE_FEED) ≡ false → bytes_before n (split_at LINE_FEED bytes) ≡ None
  bytes_missing e = bytes_said ∙ first_bytes-by false e

  module _ (inside : n < length bytes) (feed : get_or bytes n 0 ≡ LINE_FEED) where
    lines_at : split_at LINE_FEED bytes ≡ split_at LINE_FEED (take n bytes) ++ split_at LINE_FEED (drop (n + 1) bytes)
    lines_at = ap (split_at LINE_FEED) (at_index n bytes inside feed) ∙ split_two (take n bytes) (drop (n + 1) bytes)

    count_at : length (split_at LINE_FEED (take n bytes)) ≡ count_by (λ b. b == LINE_FEED) (take n bytes) + 1
    count_at = length-slice_split (λ b. b == LINE_FEED) (take n bytes)

    pub bytes_rest : split_at LINE_FEED (drop (n + 1) bytes) ≡ drop (count_by (λ b. b == LINE_FEED) (take n bytes) + 1) (split_at LINE_FEED bytes)
    bytes_rest = sym (ap (drop (count_by (λ b. b == LINE_FEED) (take n bytes) + 1)) lines_at
        ∙ drop_at (split_at LINE_FEED (take n bytes)) (split_at LINE_FEED (drop (n + 1) bytes)) (count_by (λ b. b == LINE_FEED) (take n bytes) + 1) count_at)

    pub bytes_few : count_by (λ b. b == LINE_FEED) (take n bytes) + 1 ≤ length (split_at LINE_FEED bytes)
    bytes_few = let total = ap length lines_at ∙ length-append (split_at LINE_FEED (take n bytes)) (split_at LINE_FEED (drop (n + 1) bytes)) in let counts = count_at in omega arith

-- the bytes that are taken, and the lines that follow them
pub text_and_rest : (n : ℕ) (bytes : List ℕ) (lines : List (List ℕ)) (feeds : ℕ) → lines ≡ split_at LINE_FEED bytes
    → n < length bytes → (get_or bytes n 0 == LINE_FEED) ≡ true → feeds ≡ count_by (λ b. b == LINE_FEED) (take n bytes)
    → (feeds + 1 ≤ length lines) × (split_at LINE_FEED (take (length bytes - (n + 1)) (drop (n + 1) bytes)) ≡ drop (feeds + 1) lines)
text_and_rest n bytes lines feeds all inside is counted =
    let feed : get_or bytes n 0 ≡ LINE_FEED = eqb-true (get_or bytes n 0) LINE_FEED is in
    let few = bytes_few n bytes inside feed in
    let total = ap length all in
    let whole : take (length bytes - (n + 1)) (drop (n + 1) bytes) ≡ drop (n + 1) bytes = take_all _ _ (omega (arith, length-drop (n + 1) bytes)) in (
      omega arith,
      ap (split_at LINE_FEED) whole
          ∙ (bytes_rest n bytes inside feed
          ∙ (ap (λ k. drop (k + 1) (split_at LINE_FEED bytes)) (sym counted)
          ∙ ap (drop (feeds + 1)) (sym all))),
    )

-- a text that is taken, with the number of its lines
pub past_taken : (find : List (List ℕ) → Option (List ℕ × ℕ)) (old : RemainingLines) (number : ℕ) (lines rest : List (List ℕ)) (text : List ℕ) (count : ℕ)
    → old ≡ record { number = number; lines = lines } → find lines ≡ Some (text, count) → rest ≡ drop count lines
    → (x : ℕ) × (find old.lines ≡ Some (text, x)) × IsAdvanced x old (record { number = number + count; lines = rest })
past_taken find old number lines rest text count is found taken =
    let same : old.lines ≡ lines = ap (λ (r : RemainingLines). r.lines) is in
    let counted : old.number ≡ number = ap (λ (r : RemainingLines). r.number) is in
    (count, ap find same ∙ found, record { number = ap (λ k. k + count) (sym counted); lines = taken ∙ ap (drop count) (sym same) })

-- a text has at most one line more than it has bytes
pub lines_fit : (bytes : List ℕ) → length (split_at LINE_FEED bytes) ≤ length bytes + 1
lines_fit bytes = omega (arith, length-slice_split (λ b. b == LINE_FEED) bytes, count_by-le-length (λ b. b == LINE_FEED) bytes)

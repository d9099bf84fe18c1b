-- A script that is made of the lines of events.
use Rattle.event_lines.proofs.Words.{◌≡◌, ℕ, ◌+◌, ◌^◌, ◌<◌, ◌==◌, Bool, true, false, List, [], ◌∷◌, ◌++◌, codes, count_by, decimal, map, flat_map, Some, Result, Ok, refl, AllByRecursion, list_any, sym, ◌∙◌, ap, arith, length, take, drop, get_or, append_assoc, append-nil, length-append, subst, take_at, drop_at, get_or_at, Entry, Text, Charter, AreNames, Submission, Event, Offer, Begin, Deliver, Restart, Carried, PlayLine, Common, split_at, prepended, script_from, script_of, with_line, play_line_of, bytes_before, text_passed, bytes_found, bytes_rest, EventIsInRange, EntryIsInRange, TextIsInRange, lines_of_event, lines_of_events, offer_lines, text_offer_lines, play_line_of_event, spaced, node_author_serial_words}
use Rattle.commands.specs.declared.common_line.CommonLine.TheVariants.{Offer as OfferLine}
use Rattle.event_lines.proofs.DecimalLemmas.{without-decimal}
use Rattle.event_lines.proofs.WordsLemmas.{Without, without-append, without-spaced, split_before}
use Rattle.event_lines.proofs.LinesLemmas.{begin_says, restart_says, deliver_says, offer_says, bytes_say, charter_says}

-- the result of parsing the lines of a text as a script
abbrev lines_say : ℕ → List ℕ → Result (List PlayLine) ℕ
lines_say number bytes = script_from play_line_of number 0 (split_at 10 bytes)

-- a text at the front of a script is read as this line
abbrev IsRead : List ℕ → PlayLine → Type 0
IsRead text line = (number : ℕ) (rest : List ℕ) → (next : ℕ) × (lines_say number (text ++ rest) ≡ prepended line (lines_say next rest))

module _ (line : List ℕ) (free : Without 10 line) (some : 0 < length line) where
  -- the first line is parsed, and then the lines after it
  one_line : (number : ℕ) (rest : List ℕ) → lines_say number (line ++ 10 ∷ rest)
      ≡ with_line number (play_line_of line (split_at 10 rest)) (λ count. script_from play_line_of (number + 1) count (split_at 10 rest))
  one_line number rest = ap (script_from play_line_of number 0) (split_before 10 line rest free) ∙ by line some
    where
      by : (l : List ℕ) → 0 < length l → script_from play_line_of number 0 (l ∷ split_at 10 rest)
          ≡ with_line number (play_line_of l (split_at 10 rest)) (λ count. script_from play_line_of (number + 1) count (split_at 10 rest))
      by [] none = absurd (omega arith)
      by (c ∷ cs) more = refl

  -- a line that takes no further lines
  read_without_text : (x : PlayLine) → ((lines : List (List ℕ)) → play_line_of line lines ≡ Some (x, 0)) → IsRead (line ++ codes "\n") x
  read_without_text x says = λ number rest. (
    number + 1,
    ap (lines_say number) (append_assoc line (codes "\n") rest)
        ∙ (one_line number rest
        ∙ ap (λ o. with_line number o (λ count. script_from play_line_of (number + 1) count (split_at 10 rest))) (says (split_at 10 rest))),
  )

  -- a line whose text is in the bytes that follow it
  module _ (text : List ℕ) (x : PlayLine)
      (says : (rest : List ℕ) → play_line_of line (split_at 10 (text ++ 10 ∷ rest)) ≡ Some (x, count_by (λ b. b == 10) text + 1)) where
    read_bytes : IsRead (line ++ codes "\n" ++ text ++ codes "\n") x
    read_bytes = λ number rest.
        let all : List ℕ = text ++ 10 ∷ rest in
        let count : ℕ = count_by (λ b. b == 10) text + 1 in
        let form : (line ++ codes "\n" ++ text ++ codes "\n") ++ rest ≡ line ++ 10 ∷ all
        = append_assoc (line ++ codes "\n" ++ text) (codes "\n") rest
        ∙ (append_assoc (line ++ codes "\n") text (10 ∷ rest)
        ∙ append_assoc line (codes "\n") all) in
        let front : take (length text) all ≡ text = take_at text (10 ∷ rest) (length text) refl in
        let feed : get_or all (length text) 0 ≡ 10 = get_or_at text 10 rest 0 (length text) refl in
        let inside : length text < length all = omega (arith, length-append text (10 ∷ rest)) in
        let after : split_at 10 rest ≡ drop count (split_at 10 all)
        = ap (split_at 10) (sym (drop_at (text ++ 10 ∷ []) rest (length text + 1) (length-append text (10 ∷ []))) ∙ ap (drop (length text + 1)) (append_assoc text (10 ∷ []) rest))
        ∙ (bytes_rest (length text) all inside feed
        ∙ ap (λ t. drop (count_by (λ b. b == 10) t + 1) (split_at 10 all)) front) in (
          number + 1 + count,
          ap (lines_say number) form
              ∙ (one_line number all
              ∙ (ap (λ o. with_line number o (λ count. script_from play_line_of (number + 1) count (split_at 10 all))) (says rest)
              ∙ ap (prepended x) (text_passed play_line_of (number + 1) count (split_at 10 all)
              ∙ ap (script_from play_line_of (number + 1 + count) 0) (sym after)))),
        )

-- the bytes of a text are read from the lines that begin with it, and its line feeds are counted
bytes_at : (text rest : List ℕ) → bytes_before (length text) (split_at 10 (text ++ 10 ∷ rest)) ≡ Some (text, count_by (λ b. b == 10) text + 1)
bytes_at text rest =
    let all : List ℕ = text ++ 10 ∷ rest in
    let front : take (length text) all ≡ text = take_at text (10 ∷ rest) (length text) refl in
    let feed : get_or all (length text) 0 ≡ 10 = get_or_at text 10 rest 0 (length text) refl in
    bytes_found (length text) all (ap (λ b. b == 10) feed) ∙ ap (λ t. Some (t, count_by (λ b. b == 10) t + 1)) front

-- a list is not empty if something is appended to a list that is not empty
longer : (xs ys : List ℕ) → 0 < length xs → 0 < length (xs ++ ys)
longer xs ys some = omega (arith, length-append xs ys)

-- the digits of a number have no byte below the digits
free_of : (c n : ℕ) → c < 48 → n < 2 ^ 64 → Without c (decimal n)
free_of c n low small = without-decimal c n low small

wide : (k : ℕ) → k < 256 → k < 2 ^ 64
wide k small = omega arith

names_free : (c : ℕ) (names : List ℕ) → c < 48 → AllByRecursion (λ n. n < 2 ^ 64) names → AllByRecursion (Without c) (map decimal names)
names_free c [] low small = tt
names_free c (n ∷ names) low (small, others) = (free_of c n low small, names_free c names low others)

spaced-append : (xs ys : List (List ℕ)) → spaced (xs ++ ys) ≡ spaced xs ++ spaced ys
spaced-append [] ys = refl
spaced-append (x ∷ xs) ys = ap (λ l. (codes " " ++ x) ++ l) (spaced-append xs ys) ∙ sym (append_assoc (codes " " ++ x) (spaced xs) (spaced ys))

module _ (k a s : ℕ) (node : k < 256) (author : a < 2 ^ 64) (serial : s < 2 ^ 64) where
  node_author_serial_words_free : (c : ℕ) → c < 48 → (words : List (List ℕ)) → AllByRecursion (Without c) words → AllByRecursion (Without c) (node_author_serial_words k a s ++ words)
  node_author_serial_words_free c low words others = (free_of c k low (wide k node), (free_of c a low author, (free_of c s low serial, others)))

  -- an offer of a text without line feeds
  read_offer : (text : List ℕ) → Without 10 text
      → IsRead (codes "offer" ++ spaced (node_author_serial_words k a s) ++ codes " " ++ text ++ codes "\n")
      (Common (OfferLine (record { node = k; entry = Text (record { author = a; serial = s; text = text }) })))
  read_offer text none =
      let place : List ℕ = spaced (node_author_serial_words k a s) in
      let line : List ℕ = codes "offer" ++ (place ++ codes " " ++ text) in
      let form : line ≡ codes "offer" ++ place ++ codes " " ++ text
      = sym (append_assoc (codes "offer" ++ place) (codes " ") text ∙ (append_assoc (codes "offer") place (codes " " ++ text) ∙ ap (λ l. codes "offer" ++ l) (sym (append_assoc place (codes " ") text)))) in
      let free : Without 10 line = without-append 10 (codes "offer") (place ++ codes " " ++ text) refl
      (without-append 10 (place ++ codes " ") text (without-append 10 place (codes " ") (without-spaced 10 (node_author_serial_words k a s) refl (node_author_serial_words_free 10 (omega arith) [] tt)) refl) none) in
      let P : List ℕ → Type 0 = λ l. IsRead (l ++ codes "\n") (Common (OfferLine (record { node = k; entry = Text (record { author = a; serial = s; text = text }) }))) in
      subst P form (read_without_text line free (longer (codes "offer") (place ++ codes " " ++ text) (omega arith)) _ (λ lines. offer_says k a s lines node author serial text (node_author_serial_words_free 32 (omega arith) [] tt)))

  -- an offer of the bytes of a text
  read_bytes_offer : (text : List ℕ) → length text < 2 ^ 64
      → IsRead (codes "offer-bytes" ++ spaced (node_author_serial_words k a s) ++ spaced (decimal (length text) ∷ []) ++ codes "\n" ++ text ++ codes "\n")
      (Common (OfferLine (record { node = k; entry = Text (record { author = a; serial = s; text = text }) })))
  read_bytes_offer text small =
      let n : List (List ℕ) = decimal (length text) ∷ [] in
      let line : List ℕ = codes "offer-bytes" ++ spaced (node_author_serial_words k a s ++ n) in
      let form : line ≡ codes "offer-bytes" ++ spaced (node_author_serial_words k a s) ++ spaced n
      = ap (λ l. codes "offer-bytes" ++ l) (spaced-append (node_author_serial_words k a s) n) ∙ sym (append_assoc (codes "offer-bytes") (spaced (node_author_serial_words k a s)) (spaced n)) in
      let free : Without 10 line = without-append 10 (codes "offer-bytes") (spaced (node_author_serial_words k a s ++ n)) refl
      (without-spaced 10 (node_author_serial_words k a s ++ n) refl (node_author_serial_words_free 10 (omega arith) n (free_of 10 (length text) (omega arith) small, tt))) in
      let P : List ℕ → Type 0 = λ l. IsRead (l ++ codes "\n" ++ text ++ codes "\n") (Common (OfferLine (record { node = k; entry = Text (record { author = a; serial = s; text = text }) }))) in
      subst P form (read_bytes line free (longer (codes "offer-bytes") (spaced (node_author_serial_words k a s ++ n)) (omega arith)) text _
      (λ rest. bytes_say k a s (split_at 10 (text ++ 10 ∷ rest)) node author serial (length text) (count_by (λ b. b == 10) text + 1) text small (bytes_at text rest)
      (node_author_serial_words_free 32 (omega arith) n (free_of 32 (length text) (omega arith) small, tt))))

  -- a charter
  read_charter : (names : List ℕ) → AreNames names → AllByRecursion (λ n. n < 2 ^ 64) names
      → IsRead (codes "charter" ++ spaced (node_author_serial_words k a s) ++ spaced (map decimal names) ++ codes "\n")
      (Common (OfferLine (record { node = k; entry = Charter a s names })))
  read_charter names are small =
      let line : List ℕ = codes "charter" ++ spaced (node_author_serial_words k a s ++ map decimal names) in
      let form : line ≡ codes "charter" ++ spaced (node_author_serial_words k a s) ++ spaced (map decimal names)
      = ap (λ l. codes "charter" ++ l) (spaced-append (node_author_serial_words k a s) (map decimal names)) ∙ sym (append_assoc (codes "charter") (spaced (node_author_serial_words k a s)) (spaced (map decimal names))) in
      let free : Without 10 line = without-append 10 (codes "charter") (spaced (node_author_serial_words k a s ++ map decimal names)) refl
      (without-spaced 10 (node_author_serial_words k a s ++ map decimal names) refl (node_author_serial_words_free 10 (omega arith) (map decimal names) (names_free 10 names (omega arith) small))) in
      let P : List ℕ → Type 0 = λ l. IsRead (l ++ codes "\n") (Common (OfferLine (record { node = k; entry = Charter a s names }))) in
      subst P form (read_without_text line free (longer (codes "charter") (spaced (node_author_serial_words k a s ++ map decimal names)) (omega arith)) _
      (λ lines. charter_says k a s lines node author serial names are small (node_author_serial_words_free 32 (omega arith) (map decimal names) (names_free 32 names (omega arith) small))))

read_number : (verb : List ℕ) (n : ℕ) (x : PlayLine) → Without 10 verb → 0 < length verb → n < 2 ^ 64
    → ((lines : List (List ℕ)) → play_line_of (verb ++ spaced (decimal n ∷ [])) lines ≡ Some (x, 0)) → IsRead (verb ++ spaced (decimal n ∷ []) ++ codes "\n") x
read_number verb n x free some small says =
    read_without_text (verb ++ spaced (decimal n ∷ []))
    (without-append 10 verb (spaced (decimal n ∷ [])) free (without-spaced 10 (decimal n ∷ []) refl (free_of 10 n (omega arith) small, tt)))
    (longer verb (spaced (decimal n ∷ [])) some) x says

read_text : (k : ℕ) (s : Submission) (b : Bool) → list_any (λ b. b == 10) s.text ≡ b → k < 256 → TextIsInRange s → IsRead (text_offer_lines k s) (play_line_of_event (Offer k (record { 0 = Text s })))
read_text k s true feed node fits = rw feed (read_bytes_offer k s.author s.serial node fits.0 fits.1 s.text fits.2)
read_text k s false feed node fits = rw feed (read_offer k s.author s.serial node fits.0 fits.1 s.text feed)

read_entry : (k : ℕ) (e : Entry) → k < 256 → EntryIsInRange e → IsRead (offer_lines k e) (play_line_of_event (Offer k (record { 0 = e })))
read_entry k (Text s) node fits = read_text k s (list_any (λ b. b == 10) s.text) refl node fits
read_entry k (Charter a s names) node fits = read_charter k a s node fits.0 fits.1 names fits.2 fits.3

-- the lines of an event are read as its line
read_event : (e : Event Carried) → EventIsInRange e → IsRead (lines_of_event e) (play_line_of_event e)
read_event (Offer k v) fits = read_entry k v.0 fits.0 fits.1
read_event (Begin k) fits = read_number (codes "begin") k _ refl (omega arith) (wide k fits) (λ lines. begin_says k lines fits (free_of 32 k (omega arith) (wide k fits), tt))
read_event (Deliver n) fits = read_number (codes "deliver") n _ refl (omega arith) fits (λ lines. deliver_says n lines fits (free_of 32 n (omega arith) fits, tt))
read_event (Restart k) fits = read_number (codes "restart") k _ refl (omega arith) (wide k fits) (λ lines. restart_says k lines fits (free_of 32 k (omega arith) (wide k fits), tt))

-- the lines of several events are read as theirs
read_events : (es : List (Event Carried)) (number : ℕ) → AllByRecursion EventIsInRange es → lines_say number (lines_of_events es) ≡ Ok (map play_line_of_event es)
read_events [] number fits = refl
read_events (e ∷ es) number (first, others) =
    let at = read_event e first number (lines_of_events es) in
    at.1 ∙ ap (prepended (play_line_of_event e)) (read_events es at.0 others)

pub events_parse : (es : List (Event Carried)) → AllByRecursion EventIsInRange es → script_of play_line_of (lines_of_events es) ≡ Ok (map play_line_of_event es)
events_parse es fits = read_events es 1 fits

-- these events are in the text, and their numbers are within their types
pub record AreWritten (events : List (Event Carried)) (text : List ℕ) : Type 0 where
  pub lines : text ≡ lines_of_events events
  pub fit : AllByRecursion EventIsInRange events

-- the text of all events is parsed as their lines
pub written_parses : (es : List (Event Carried)) (text : List ℕ) → AreWritten es text → script_of play_line_of text ≡ Ok (map play_line_of_event es)
written_parses es text so = ap (script_of play_line_of) so.lines ∙ events_parse es so.fit

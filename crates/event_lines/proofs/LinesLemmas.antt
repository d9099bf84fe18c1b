-- The line of an event, as `play` parses it.
use Rattle.event_lines.proofs.Words.{◌≡◌, ℕ, ◌+◌, ◌^◌, ◌<◌, ◌≤◌, ◌==◌, nat_lt, Bool, true, false, ◌&&◌, List, [], ◌∷◌, ◌++◌, codes, decimal, map, Option, Some, None, option_map, option_and_then, if◌then◌else◌, refl, AllByRecursion, join_with_byte, ◌∙◌, ap, arith, length, lt-ltb, join_with_byte-slice_split, MAX_NAMES, Text, Charter, AreNames, is_rising, NodeEntryId, OfferedEntry, TextForm, Rest, Bytes, PlayLine, Common, split_at, Words, last_value, by_first_word, node_of, first_number, one_node, one_number, first_entry_id, without_text, are_charter_authors, charter_authors_of, numbers_of, line_or_common_line, play_line_by, play_line_of, bytes_before, text_in_form, spaced, node_author_serial_words}
use Rattle.commands.specs.declared.common_line.CommonLine.TheVariants.{Offer, Begin, Restart}
use Rattle.commands.specs.declared.play_line.PlayLine.TheVariants.{Deliver}
use Rattle.event_lines.proofs.DecimalLemmas.{number_of-decimal}
use Rattle.event_lines.proofs.WordsLemmas.{Without, split_words, split_text}

node_of-small : (k : ℕ) → k < 256 → node_of k ≡ k
node_of-small k small = ap (λ b. if b then k else 255) (lt-ltb k 256 small)

wide : (k : ℕ) → k < 256 → k < 2 ^ 64
wide k small = omega arith

one_number-decimal : (n : ℕ) → n < 2 ^ 64 → one_number (decimal n ∷ []) ≡ Some n
one_number-decimal n small = ap (λ o. option_and_then (λ m. last_value m) (option_map (λ m. (m, [])) o)) (number_of-decimal n small)

one_node-decimal : (k : ℕ) → k < 256 → one_node (decimal k ∷ []) ≡ Some k
one_node-decimal k small = ap (option_map node_of) (one_number-decimal k (wide k small)) ∙ ap Some (node_of-small k small)

-- the node, the author and the serial number that are read from words
abbrev after_node : Option ℕ → Words → Option (NodeEntryId × Words)
after_node k ws = option_and_then (λ (k : ℕ × Words). option_and_then (λ (a : ℕ × Words). option_and_then (λ (s : ℕ × Words). Some (record { node = node_of k.0; author = a.0; serial = s.0 }, s.1)) (first_number a.1)) (first_number k.1)) (option_map (λ n. (n, ws)) k)

abbrev after_author : ℕ → Option ℕ → Words → Option (NodeEntryId × Words)
after_author k a ws = option_and_then (λ (a : ℕ × Words). option_and_then (λ (s : ℕ × Words). Some (record { node = node_of k; author = a.0; serial = s.0 }, s.1)) (first_number a.1)) (option_map (λ n. (n, ws)) a)

abbrev after_serial : ℕ → ℕ → Option ℕ → Words → Option (NodeEntryId × Words)
after_serial k a s ws = option_and_then (λ (s : ℕ × Words). Some (record { node = node_of k; author = a; serial = s.0 }, s.1)) (option_map (λ n. (n, ws)) s)

first_entry_id-words : (k a s : ℕ) (ws : Words) → k < 256 → a < 2 ^ 64 → s < 2 ^ 64
    → first_entry_id (decimal k ∷ decimal a ∷ decimal s ∷ ws) ≡ Some (record { node = k; author = a; serial = s }, ws)
first_entry_id-words k a s ws node author serial =
    ap (λ o. after_node o (decimal a ∷ decimal s ∷ ws)) (number_of-decimal k (wide k node))
    ∙ (ap (λ o. after_author k o (decimal s ∷ ws)) (number_of-decimal a author)
    ∙ (ap (λ o. after_serial k a o ws) (number_of-decimal s serial)
    ∙ ap (λ n. Some (record { node = n; author = a; serial = s }, ws)) (node_of-small k node)))

-- a line is parsed by the words that it splits into
parsed_by : (line : List ℕ) (lines : List (List ℕ)) (words : Words) (x : Option (PlayLine × ℕ))
    → split_at 32 line ≡ words → by_first_word (play_line_by lines) words ≡ x → play_line_of line lines ≡ x
parsed_by line lines words x is says = ap (by_first_word (play_line_by lines)) is ∙ says

-- the lines that offer a text, and those that offer a charter, from their parts
abbrev text_line : NodeEntryId → Option (List ℕ × ℕ) → Option (PlayLine × ℕ)
text_line at text = option_map (λ (o : OfferedEntry × ℕ). (Common (Offer o.0), o.1))
    (option_and_then (λ (t : List ℕ × ℕ). Some (record { node = at.node; entry = Text (record { author = at.author; serial = at.serial; text = t.0 }) }, t.1)) text)

abbrev text_line_at : TextForm → List (List ℕ) → Option (NodeEntryId × Words) → Option (PlayLine × ℕ)
text_line_at form lines at = option_map (λ (o : OfferedEntry × ℕ). (Common (Offer o.0), o.1))
    (option_and_then (λ (e : NodeEntryId × Words). option_and_then (λ (t : List ℕ × ℕ). Some (record { node = (e.0).node; entry = Text (record { author = (e.0).author; serial = (e.0).serial; text = t.0 }) }, t.1)) (text_in_form form e.1 lines)) at)

abbrev charter_line : NodeEntryId → Option (List ℕ) → Option (PlayLine × ℕ)
charter_line at names = without_text (option_map (λ l. Common l) (option_map (λ o. Offer o)
    (option_and_then (λ names. Some (record { node = at.node; entry = Charter at.author at.serial names })) names)))

abbrev charter_line_at : Option (NodeEntryId × Words) → Option (PlayLine × ℕ)
charter_line_at at = without_text (option_map (λ l. Common l) (option_map (λ o. Offer o)
    (option_and_then (λ (e : NodeEntryId × Words). option_and_then (λ names. Some (record { node = (e.0).node; entry = Charter (e.0).author (e.0).serial names })) (charter_authors_of e.1)) at)))

module _ (lines : List (List ℕ)) where
  begin_by : (k : ℕ) → k < 256 → play_line_by lines (codes "begin") (decimal k ∷ []) ≡ Some (Common (Begin k), 0)
  begin_by k small = ap (λ o. without_text (option_map (λ l. Common l) (option_map (λ k. Begin k) o))) (one_node-decimal k small)

  restart_by : (k : ℕ) → k < 256 → play_line_by lines (codes "restart") (decimal k ∷ []) ≡ Some (Common (Restart k), 0)
  restart_by k small = ap (λ o. without_text (option_map (λ l. Common l) (option_map (λ k. Restart k) o))) (one_node-decimal k small)

  deliver_by : (n : ℕ) → n < 2 ^ 64 → play_line_by lines (codes "deliver") (decimal n ∷ []) ≡ Some (Deliver n, 0)
  deliver_by n small = ap (λ o. without_text (line_or_common_line (option_map (λ n. Deliver n) o) (codes "deliver") (decimal n ∷ []))) (one_number-decimal n small)

  module _ (k a s : ℕ) (node : k < 256) (author : a < 2 ^ 64) (serial : s < 2 ^ 64) where
    offer_by : (words : Words) → play_line_by lines (codes "offer") (node_author_serial_words k a s ++ words)
        ≡ Some (Common (Offer (record { node = k; entry = Text (record { author = a; serial = s; text = join_with_byte 32 words }) })), 0)
    offer_by words = ap (text_line_at Rest lines) (first_entry_id-words k a s words node author serial)

    bytes_by : (n taken : ℕ) (text : List ℕ) → n < 2 ^ 64 → bytes_before n lines ≡ Some (text, taken)
        → play_line_by lines (codes "offer-bytes") (node_author_serial_words k a s ++ decimal n ∷ [])
        ≡ Some (Common (Offer (record { node = k; entry = Text (record { author = a; serial = s; text = text }) })), taken)
    bytes_by n taken text small is =
        ap (text_line_at Bytes lines) (first_entry_id-words k a s (decimal n ∷ []) node author serial)
        ∙ (ap (λ o. text_line (record { node = k; author = a; serial = s }) (option_and_then (λ n. bytes_before n lines) o)) (one_number-decimal n small)
        ∙ ap (text_line (record { node = k; author = a; serial = s })) is)

    charter_by : (names : List ℕ) → charter_authors_of (map decimal names) ≡ Some names
        → play_line_by lines (codes "charter") (node_author_serial_words k a s ++ map decimal names)
        ≡ Some (Common (Offer (record { node = k; entry = Charter a s names })), 0)
    charter_by names is =
        ap charter_line_at (first_entry_id-words k a s (map decimal names) node author serial)
        ∙ ap (charter_line (record { node = k; author = a; serial = s })) is

-- the numbers of a charter are read from their digits

numbers_of-decimals : (ns : List ℕ) → AllByRecursion (λ n. n < 2 ^ 64) ns → numbers_of (map decimal ns) ≡ Some ns
numbers_of-decimals [] small = refl
numbers_of-decimals (n ∷ ns) (small, others) =
    ap (λ o. option_and_then (λ m. option_and_then (λ ms. Some (m ∷ ms)) (numbers_of (map decimal ns))) o) (number_of-decimal n small)
    ∙ ap (λ o. option_and_then (λ ms. Some (n ∷ ms)) o) (numbers_of-decimals ns others)

all_three : (a b c : Bool) → a ≡ true → b ≡ true → c ≡ true → (a && b && c) ≡ true
all_three a b c first second third = ap (λ x. x && b && c) first ∙ (ap (λ x. x && c) second ∙ third)

are_charter_authors-AreNames : (ns : List ℕ) → AreNames ns → are_charter_authors ns ≡ true
are_charter_authors-AreNames ns h =
    let some = h.some in
    let few = h.few in
    all_three (nat_lt 0 (length ns)) (nat_lt (length ns) (MAX_NAMES + 1)) (is_rising ns)
    (lt-ltb 0 (length ns) (omega arith)) (lt-ltb (length ns) (MAX_NAMES + 1) (omega arith)) h.rising

pub charter_authors_of-decimals : (ns : List ℕ) → AreNames ns → AllByRecursion (λ n. n < 2 ^ 64) ns → charter_authors_of (map decimal ns) ≡ Some ns
charter_authors_of-decimals ns h small =
    ap (λ o. option_and_then (λ names. if are_charter_authors names then Some names else None) o) (numbers_of-decimals ns small)
    ∙ ap (λ b. if b then Some ns else None) (are_charter_authors-AreNames ns h)

-- the lines of events are parsed as these events

pub begin_says : (k : ℕ) (lines : List (List ℕ)) → k < 256 → AllByRecursion (Without 32) (decimal k ∷ [])
    → play_line_of (codes "begin" ++ spaced (decimal k ∷ [])) lines ≡ Some (Common (Begin k), 0)
begin_says k lines small free = parsed_by (codes "begin" ++ spaced (decimal k ∷ [])) lines _ _ (split_words (codes "begin") (decimal k ∷ []) refl free) (begin_by lines k small)

pub restart_says : (k : ℕ) (lines : List (List ℕ)) → k < 256 → AllByRecursion (Without 32) (decimal k ∷ [])
    → play_line_of (codes "restart" ++ spaced (decimal k ∷ [])) lines ≡ Some (Common (Restart k), 0)
restart_says k lines small free = parsed_by (codes "restart" ++ spaced (decimal k ∷ [])) lines _ _ (split_words (codes "restart") (decimal k ∷ []) refl free) (restart_by lines k small)

pub deliver_says : (n : ℕ) (lines : List (List ℕ)) → n < 2 ^ 64 → AllByRecursion (Without 32) (decimal n ∷ [])
    → play_line_of (codes "deliver" ++ spaced (decimal n ∷ [])) lines ≡ Some (Deliver n, 0)
deliver_says n lines small free = parsed_by (codes "deliver" ++ spaced (decimal n ∷ [])) lines _ _ (split_words (codes "deliver") (decimal n ∷ []) refl free) (deliver_by lines n small)

module _ (k a s : ℕ) (lines : List (List ℕ)) (node : k < 256) (author : a < 2 ^ 64) (serial : s < 2 ^ 64) where
  pub offer_says : (text : List ℕ) → AllByRecursion (Without 32) (node_author_serial_words k a s)
      → play_line_of (codes "offer" ++ (spaced (node_author_serial_words k a s) ++ codes " " ++ text)) lines
      ≡ Some (Common (Offer (record { node = k; entry = Text (record { author = a; serial = s; text = text }) })), 0)
  offer_says text free =
      parsed_by (codes "offer" ++ (spaced (node_author_serial_words k a s) ++ codes " " ++ text)) lines _ _ (split_text (codes "offer") (node_author_serial_words k a s) text refl free)
      (offer_by lines k a s node author serial (split_at 32 text)
      ∙ ap (λ t. Some (Common (Offer (record { node = k; entry = Text (record { author = a; serial = s; text = t }) })), 0)) (join_with_byte-slice_split 32 text))

  pub bytes_say : (n taken : ℕ) (text : List ℕ) → n < 2 ^ 64 → bytes_before n lines ≡ Some (text, taken)
      → AllByRecursion (Without 32) (node_author_serial_words k a s ++ decimal n ∷ [])
      → play_line_of (codes "offer-bytes" ++ spaced (node_author_serial_words k a s ++ decimal n ∷ [])) lines
      ≡ Some (Common (Offer (record { node = k; entry = Text (record { author = a; serial = s; text = text }) })), taken)
  bytes_say n taken text small is free =
      parsed_by (codes "offer-bytes" ++ spaced (node_author_serial_words k a s ++ decimal n ∷ [])) lines _ _ (split_words (codes "offer-bytes") (node_author_serial_words k a s ++ decimal n ∷ []) refl free) (bytes_by lines k a s node author serial n taken text small is)

  pub charter_says : (names : List ℕ) → AreNames names → AllByRecursion (λ n. n < 2 ^ 64) names
      → AllByRecursion (Without 32) (node_author_serial_words k a s ++ map decimal names)
      → play_line_of (codes "charter" ++ spaced (node_author_serial_words k a s ++ map decimal names)) lines
      ≡ Some (Common (Offer (record { node = k; entry = Charter a s names })), 0)
  charter_says names are small free =
      parsed_by (codes "charter" ++ spaced (node_author_serial_words k a s ++ map decimal names)) lines _ _ (split_words (codes "charter") (node_author_serial_words k a s ++ map decimal names) refl free)
      (charter_by lines k a s node author serial names (charter_authors_of-decimals names are small))

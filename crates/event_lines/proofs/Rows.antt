-- The lines of small events.
use Rattle.event_lines.proofs.Words.{◌≡◌, [], ◌∷◌, codes, decimal, refl, arith, decimal_digit, Text, Charter, Offer, Begin, Deliver, Restart, lines_of_event}

one : decimal 1 ≡ codes "1"
one = decimal_digit 1 (omega arith)

three : decimal 3 ≡ codes "3"
three = decimal_digit 3 (omega arith)

seven : decimal 7 ≡ codes "7"
seven = decimal_digit 7 (omega arith)

-- a text without a line feed is on the line of its offer
offer : lines_of_event (Offer 1 (record { 0 = Text (record { author = 7; serial = 3; text = codes "$c a $." }) })) ≡ codes "offer 1 7 3 $c a $.\n"
offer = rw (one, seven, three) refl

-- a text of three bytes with a line feed is after the line of its offer
offer_bytes : lines_of_event (Offer 1 (record { 0 = Text (record { author = 7; serial = 3; text = codes "a\nb" }) })) ≡ codes "offer-bytes 1 7 3 3\na\nb\n"
offer_bytes = rw (one, seven, three) refl

-- a charter
charter : lines_of_event (Offer 1 (record { 0 = Charter 7 3 (1 ∷ 7 ∷ []) })) ≡ codes "charter 1 7 3 1 7\n"
charter = rw (one, seven, three) refl

begin : lines_of_event (Begin 3) ≡ codes "begin 3\n"
begin = rw three refl

deliver : lines_of_event (Deliver 7) ≡ codes "deliver 7\n"
deliver = rw seven refl

restart : lines_of_event (Restart 1) ≡ codes "restart 1\n"
restart = rw one refl

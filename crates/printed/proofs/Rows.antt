-- The lines of the outline, and the lines on the rules, for small texts; the lines on nodes.
use Rattle.std.specs.Prelude.{ℕ, Bool, false}
use Rattle.synod.specs.declared.proposer.Role.TheVariants.{Leading}
use Rattle.world.specs.declared.health.NodeStatus.{NodeStatus}
use Rattle.printed.specs.Healths.{node_line, events_line}
use Rattle.printed.proofs.Words.{◌≡◌, Some, None, [], ◌∷◌, true, codes, decimal, refl, arith, decimal_digit, Open, Prove, G10, outline_line, rules_line, numbered_line}

-- the digits of 1
one : decimal 1 ≡ codes "1"
one = decimal_digit 1 (omega arith)

-- the digits of 3
three : decimal 3 ≡ codes "3"
three = decimal_digit 3 (omega arith)

-- the line of a `$p` has the count of the tokens of its proof in their place
proof_by_its_count : outline_line 3 (Prove (codes "q") (codes "|-" ∷ []) (codes "p" ∷ [])) ≡ codes "3 q $p |- $= 1 $.\n"
proof_by_its_count = rw (one, three) refl

-- the line of a `${`
block : outline_line 1 Open ≡ codes "1 ${\n"
block = rw one refl

-- a text that breaks no rule
good : rules_line None ≡ codes "good\n"
good = refl

-- a block that is still open at the end
open_block : rules_line (Some (3, G10)) ≡ codes "refused C4 3 G10\n"
open_block = rw three refl

-- a text that is no list of statements from token 3 on
token : numbered_line (codes "refused C3 token ") 3 ≡ codes "refused C3 token 3\n"
token = rw three refl

-- the digits of 0, 5 and 7
zero : decimal 0 ≡ codes "0"
zero = decimal_digit 0 (omega arith)

five : decimal 5 ≡ codes "5"
five = decimal_digit 5 (omega arith)

seven : decimal 7 ≡ codes "7"
seven = decimal_digit 7 (omega arith)

-- a node that leads at 3.0, has promised a ballot of this round, and learned five entries of seven
status : ℕ → Bool → NodeStatus
status promised down = record {
  state = record { role = Leading (record { round = 3; node = 0 }) 7; promise = record { round = promised; node = 0 }; log_len = 5; top = 7; accepted = 7; waiting = 0 };
  applied = 5;
  is_down = down;
}

-- a node that leads, and has learned five of the seven entries that it knows of
leading_node : node_line 0 (status 3 false) None ≡ codes "0 up leads 3.0 learned 5 of 7 applied 5 recovering\n"
unfolding status
leading_node = rw (zero, three, five, seven) refl

-- a node that has promised a higher ballot than that at which it leads does not lead; one that is
-- down tells the rest as any other, here with the bytes of its files
outbid_node :
    node_line 1 (status 5 true) (Some 3) ≡ codes "1 down follows learned 5 of 7 applied 5 stored 3 recovering\n"
unfolding status
outbid_node = rw (one, three, five, seven) refl

-- the line of the events
events : events_line 3 7 ≡ codes "events 3 of 7\n"
events = rw (three, seven) refl

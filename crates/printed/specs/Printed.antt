-- The texts that the program prints of packets, verdicts and libraries.
-- Source: this project's own forms; a ballot (Lamport, Paxos Made Simple, 2.2) is written as its
-- round and its node, by which ballots are compared in this order.
-- The code appends each text to the answer.
use Rattle.std.specs.Prelude.{ℕ, ◌==◌, List, [], ◌++◌, length, codes, decimal, flat_map, Option, Some, None, if◌then◌else◌}
use Rattle.mm_read.specs.Statements.{Database}
use Rattle.mm_read.specs.Export.{export_of}
use Rattle.library.specs.declared.entry.Entry.{Entry}
use Rattle.library.specs.declared.listed.Listed.{Listed}
use Rattle.library.specs.declared.verdict.Verdict.{Verdict}
use Rattle.library.specs.declared.verdict.Verdict.TheVariants.{Added, Nothing, Repeat, Refused}
use Rattle.library.specs.declared.verdict.Cause.{Cause}
use Rattle.library.specs.declared.verdict.Cause.TheVariants.{TooLong, Text, Shape, Rule, Proof, Unfinished, NotChartered, TooCostly, LeavesHypotheses}
use Rattle.library.specs.LibraryOf.{author_of, serial_of}
use Rattle.synod.specs.declared.ballot.Ballot.{Ballot}
use Rattle.synod.specs.declared.packet.SlotReport.{SlotReport}
use Rattle.synod.specs.declared.packet.Packet.{Packet}
use Rattle.synod.specs.declared.packet.Body.{Body}
use Rattle.synod.specs.declared.packet.Body.TheVariants.{Prepare, Promise, Accept, Accepted, Nack, Ask, Told}
use Rattle.world.specs.declared.carried.Carried.{Carried}
use Rattle.world.specs.Carried.{entry_of}
use Rattle.scope.specs.declared.rule.Rule.{Rule as BrokenRule}
use Rattle.scope.specs.declared.rule.Rule.TheVariants.{G1, G2, G3, G4, G5, G6, G7, G8, G9, G10, Memory}

-- a ballot R.N
abbrev pub ballot_text : Ballot → List ℕ
ballot_text b = decimal b.round ++ codes "." ++ decimal b.node

-- an entry of a log: AUTHOR/SERIAL, or idle for a no-operation
abbrev pub entry_text : Option Entry → List ℕ
entry_text None = codes "idle"
entry_text (Some entry) = decimal (author_of entry) ++ codes "/" ++ decimal (serial_of entry)

-- a space and SLOT@R.N; the value of the report is not printed
abbrev pub report_text : SlotReport Carried → List ℕ
report_text r = codes " " ++ decimal r.slot ++ codes "@" ++ ballot_text r.ballot

-- the number of the page and the count of pages, unless there is one page
abbrev pub page_text : ℕ → ℕ → List ℕ
page_text page count = if count == 1 then [] else (codes " page " ++ decimal page ++ codes " of " ++ decimal count)

-- a ballot, a slot and a value
abbrev pub proposal_text : Ballot → ℕ → Option Carried → List ℕ
proposal_text ballot slot value = ballot_text ballot ++ codes " " ++ decimal slot ++ codes " " ++ entry_text (entry_of value)

abbrev pub body_text : Body Carried → List ℕ
body_text (Prepare ballot first) = codes "prepare " ++ ballot_text ballot ++ codes " " ++ decimal first
body_text (Promise ballot page count reports) = codes "promise " ++ ballot_text ballot ++ page_text page count ++ flat_map report_text reports
body_text (Accept ballot slot value) = codes "accept " ++ proposal_text ballot slot value
body_text (Accepted ballot slot value) = codes "accepted " ++ proposal_text ballot slot value
body_text (Nack ballot promise) = codes "nack " ++ ballot_text ballot ++ codes " " ++ ballot_text promise
body_text (Ask slot) = codes "ask " ++ decimal slot
body_text (Told slot value) = codes "told " ++ decimal slot ++ codes " " ++ entry_text (entry_of value)

-- FROM>TO, a space, and the body
abbrev pub packet_text : Packet Carried → List ℕ
packet_text p = decimal p.from ++ codes ">" ++ decimal p.to ++ codes " " ++ body_text p.body

-- the name of a rule; `Memory` is none, but a failed allocation, and no library refuses with it
abbrev pub rule_text : BrokenRule → List ℕ
rule_text G1 = codes "G1"
rule_text G2 = codes "G2"
rule_text G3 = codes "G3"
rule_text G4 = codes "G4"
rule_text G5 = codes "G5"
rule_text G6 = codes "G6"
rule_text G7 = codes "G7"
rule_text G8 = codes "G8"
rule_text G9 = codes "G9"
rule_text G10 = codes "G10"
rule_text Memory = []

-- a cause of refusal: its code, then the statement and the rule if it has them
abbrev pub cause_text : Cause → List ℕ
cause_text TooLong = codes "C1"
cause_text Text = codes "C2"
cause_text Shape = codes "C3"
cause_text (NotChartered statement) = codes "C7 " ++ decimal statement
cause_text (Rule statement rule) = codes "C4 " ++ decimal statement ++ codes " " ++ rule_text rule
cause_text (Proof statement) = codes "C5 " ++ decimal statement
cause_text (Unfinished statement) = codes "C6 " ++ decimal statement
cause_text (TooCostly statement) = codes "C8 " ++ decimal statement
cause_text (LeavesHypotheses statement) = codes "C9 " ++ decimal statement

abbrev pub verdict_text : Verdict → List ℕ
verdict_text Added = codes "added"
verdict_text Nothing = codes "nothing"
verdict_text Repeat = codes "repeat"
verdict_text (Refused cause) = codes "refused " ++ cause_text cause

-- a verdict, or the word `undecided` of the caller if nothing was decided
abbrev pub verdict_text_or : Option Verdict → List ℕ → List ℕ
verdict_text_or None undecided = undecided
verdict_text_or (Some verdict) undecided = verdict_text verdict

-- an entry of a log, after a space
abbrev pub spaced_entry_text : Option Entry → List ℕ
spaced_entry_text entry = codes " " ++ entry_text entry

-- a log on one line, without a line feed
abbrev pub log_text : List (Option Entry) → List ℕ
log_text log = codes "log" ++ flat_map spaced_entry_text log

-- the line of an assertion, which is `proved` if it is a $p
abbrev pub assertion_line : Listed → List ℕ
assertion_line l = (if l.proved then codes "proved " else codes "axiom ") ++ l.label ++ codes "\n"

-- the assertions of a library: their count, and a line for each assertion
abbrev pub list_text : List Listed → List ℕ
list_text ls = codes "list " ++ decimal (length ls) ++ codes "\n" ++ flat_map assertion_line ls

-- the statements of a library: their count, and their export form
abbrev pub export_text : Database → List ℕ
export_text S = codes "export " ++ decimal (length S) ++ codes "\n" ++ export_of S

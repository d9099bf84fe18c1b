use Rattle.std.proofs.Common.{List, ℕ}
use Rattle.std.specs.Prelude.{Result, Ok, Err, IfOk}
use Rattle.mm_read.specs.Reads.{Reads}
use Rattle.mm_read.specs.Statements.{Database}
use Rattle.places.specs.Descriptions.{AreDescriptions}
use Rattle.questions.proofs.searches.descriptions_for.Goals as goal

-- what holds of an answer for each database holds for each database of the answer
for_each : {L E : Type 0} (P : L → Database → Type 0) (text : List ℕ) (r : Result L E)
    → ((S : Database) → Reads text S → IfOk r (λ l. P l S)) → IfOk r (λ l. (S : Database) → Reads text S → P l S)
for_each P text (Ok l) h = h
for_each P text (Err e) h = tt

pub returns-in-Words : goal.returns-in-Words
returns-in-Words c =
    let all = for_each (λ l S. AreDescriptions c.args.text.now S l.items) c.args.text.now c.descriptions.result c.descriptions.ensures in
    rw c.in-Words.is all

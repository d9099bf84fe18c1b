use Rattle.mm_read.proofs.Words.{◌≡◌, ◌∙◌, ap, sym, arith, subst, inl, inr, ◌+◌, ◌≤◌, length, leb-false, name_eq, AreTokensAfter, EndsSymbols, IsListAndEnd, HasBrokenList}
use Rattle.mm_read.proofs.PartLemmas.{stops_at_end, stops_otherwise, list_few}
use Rattle.mm_read.proofs.part.symbols_until.Goals as goal
use Rattle.mm_read.proofs.part.symbols_until.Goals.{in-Some+else-eq, else-eq-via-then-eq+else-has_at_least, else-eq-via-else-eq, in_default}

pub returns-clause-fault : goal.returns-clause-fault
returns-clause-fault c =
    let text = c.args.text.now in
    let at = c.args.at in
    let ws = c.in_ok-words.words in
    let end = c.args.end.now in
    let number = c.args.number in
    let least = c.args.least in
    subst (λ n. HasBrokenList text at number least end (number + n)) (sym c.len.ensures)
    (elim c.match-stop.branch [
      | in-Some+else-eq w ↦
          let s = w.in-Some.span in
          let ends : EndsSymbols text at ws s = subst (IsListAndEnd text at ws) w.in-Some.is c.in_ok-words.ensures.end in
          elim w.else-eq.branch [
            | else-eq-via-then-eq+else-has_at_least v ↦ stops_otherwise at ws c.in_ok-words.ensures.symbols number least end s ends (inl (leb-false least (length ws) (sym v.if-has_at_least.ensures)))
            | else-eq-via-else-eq v ↦ stops_otherwise at ws c.in_ok-words.ensures.symbols number least end s ends (inr (ap (λ w. name_eq w end) (sym w.token_bytes.ensures) ∙ sym v.if-eq.ensures))
          ]
      | in_default w ↦
          let none : AreTokensAfter text at ws = subst (IsListAndEnd text at ws) w.in_default.is c.in_ok-words.ensures.end in
          stops_at_end at ws c.in_ok-words.ensures.symbols number least end c.requires.place none
    ])

pub overflow_add-result : goal.overflow_add-result
overflow_add-result c =
    let text = c.args.text.now in
    let ws = c.in_ok-words.words in
    let few : length ws + c.args.at ≤ length text = list_few text c.args.at ws c.in_ok-words.stop c.requires.place c.in_ok-words.ensures.end in
    let len : c.len.result ≡ length ws = c.len.ensures in
    omega (arith, few, len, c.requires.number)

use Rattle.std.proofs.Common.{◌∙◌, sym, ap}
use Rattle.nodes.specs.Book.{MayAdd}
use Rattle.nodes.proofs.BookLemmas.{adds_moves}
use Rattle.nodes.proofs.book.Front.add.Goals as goal

pub compare_exchange-found-requires : goal.compare_exchange-found-requires
compare_exchange-found-requires g c =
    let word = c.requires.word in
    let offer = c.plain-offer.ensures in
    let pen = c.no_pen-pen.ensures in
    let may : MayAdd c.self.inside.seen.log c.args.word.now.key c.args.count (g.M.Plain.ask c.args.about.now) = rw c.self.view_is c.requires.may in (
      ap (λ w. w.tracked) word,
      c.self.invariant.0 ∙ sym (ap (λ w. w.book) word),
      pen.0 ∙ (c.self.invariant.0 ∙ sym (ap (λ w. w.book) word)),
      offer.0,
      rw (pen.1, offer.1, offer.3, c.requires.plain) (adds_moves c.self.inside.seen.log (g.M.Plain.ask c.args.about.now) c.args.word.now.key c.args.count c.requires.own c.requires.lock may),
    )

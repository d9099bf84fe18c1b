use Rattle.library.proofs.Words.{[], ◌∙◌, Ok, Err, ap, length, refl, sym, first_forbidden, says_at}
use Rattle.library.specs.Causes.{first_leaving, first_left}
use Rattle.library.specs.Work.{bytes_alone}
use Rattle.library.proofs.TextLemmas.{bytes-counted, bytes-past, bytes-within}
use Rattle.library.proofs.entry_text.read_text.Goals as goal
use Rattle.library.proofs.entry_text.read_text.Goals.{in-Some-limit, in-None}

pub returns-then-is_past : goal.returns-then-is_past
returns-then-is_past g c =
    let counted = (bytes-counted c.args.limit (length c.as_slice-text.result.now) c.new-meter.result c.add.new.self c.new-meter.ensures.count c.new-meter.ensures.limit c.in_ok-add.ensures.counted) in
    rw (← c.as_slice-text.ensures) (λ L. record {
      statements = [];
      stage = bytes_alone;
      reached = c.if-text-gt-MAX_BYTES.false;
      past = bytes-past c.args.limit c.as_slice-text.result.now c.add.new.self counted (sym c.is_past.ensures ∙ c.if-is_past.true);
    })

pub returns-in-Some : goal.returns-in-Some
returns-in-Some g c =
    let counted = (bytes-counted c.args.limit (length c.as_slice-text.result.now) c.new-meter.result c.add.new.self c.new-meter.ensures.count c.new-meter.ensures.limit c.in_ok-add.ensures.counted) in
    rw (← c.as_slice-text.ensures) (λ L. (
      _,
      record {
        outcome_is = (
          record { short = c.if-text-gt-MAX_BYTES.false; read = (c.requires.1 _ (Ok c.in-Ok.statements) (says_at g.T.Fn c.read.ensures c.in-Ok.is)).0 },
          ap (first_forbidden c.args.charter.now c.args.submission.now.author) (sym c.deref.ensures.value) ∙ sym c.in-Some.ensures,
        );
        within = bytes-within c.args.limit c.as_slice-text.result.now c.add.new.self counted (sym c.is_past.ensures ∙ c.if-is_past.false);
      },
    ))

pub returns-in-Err-Text : goal.returns-in-Err-Text
returns-in-Err-Text g c =
    let counted = (bytes-counted c.args.limit (length c.as_slice-text.result.now) c.new-meter.result c.add.new.self c.new-meter.ensures.count c.new-meter.ensures.limit c.in_ok-add.ensures.counted) in
    let told = rw c.in-Err-Text.field-0-is at (c.requires.1 c.as_slice-text.result.now (Err c.in-Err-Text.field-0) (says_at g.T.Fn c.read.ensures c.in-Err-Text.is)).1 in
    rw (← c.as_slice-text.ensures) (λ L. (
      [],
      record {
        outcome_is = (refl, record { short = c.if-text-gt-MAX_BYTES.false; fault = c.in-Err-Text.field-0-0; is = told.0; other = told.1 });
        within = bytes-within c.args.limit c.as_slice-text.result.now c.add.new.self counted (sym c.is_past.ensures ∙ c.if-is_past.false);
      },
    ))

pub returns-in-Err-Shape : goal.returns-in-Err-Shape
returns-in-Err-Shape g c =
    let counted = (bytes-counted c.args.limit (length c.as_slice-text.result.now) c.new-meter.result c.add.new.self c.new-meter.ensures.count c.new-meter.ensures.limit c.in_ok-add.ensures.counted) in
    let told = rw c.in-Err-Shape.field-0-is at (c.requires.1 c.as_slice-text.result.now (Err c.in-Err-Shape.field-0) (says_at g.T.Fn c.read.ensures c.in-Err-Shape.is)).1 in
    rw (← c.as_slice-text.ensures) (λ L. (
      [],
      record {
        outcome_is = (refl, record { short = c.if-text-gt-MAX_BYTES.false; tokens = told.0; has = told.1; none = told.2.none });
        within = bytes-within c.args.limit c.as_slice-text.result.now c.add.new.self counted (sym c.is_past.ensures ∙ c.if-is_past.false);
      },
    ))

pub returns : goal.returns
returns g c =
    let counted = (bytes-counted c.args.limit (length c.as_slice-text.result.now) c.new-meter.result c.add.new.self c.new-meter.ensures.count c.new-meter.ensures.limit c.in_ok-add.ensures.counted) in
    rw (← c.as_slice-text.ensures) (record {
      allowed = record {
        readable = record { short = c.if-text-gt-MAX_BYTES.false; read = (c.requires.1 _ (Ok c.in-Ok.statements) (says_at g.T.Fn c.read.ensures c.in-Ok.is)).0 };
        allowed = ap (first_forbidden c.args.charter.now c.args.submission.now.author) (sym c.deref.ensures.value) ∙ (sym c.first_forbidden.ensures ∙ c.in_default.is);
      };
      leaves = elim c.match-limit.branch [
        | in-Some-limit w ↦ w.leaves-is ∙ (w.first_left-leaves.ensures ∙ (ap (first_left 1) w.deref-in-Some-limit.ensures.value ∙ sym (ap (λ l. first_leaving l c.in-Ok.statements.items) w.in-Some-limit.is)))
        | in-None w ↦ w.leaves-is ∙ sym (ap (λ l. first_leaving l c.in-Ok.statements.items) w.in-None.is)
      ];
      counted = counted;
      within = sym c.is_past.ensures ∙ c.if-is_past.false;
    })

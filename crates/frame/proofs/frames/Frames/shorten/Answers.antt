use Rattle.frame.proofs.frames.Frames.shorten.Goals as goal

pub returns : goal.returns
returns c = rw (← c.self.view_is) (record { statements = c.truncate_storage.ensures.statements; names = c.truncate_storage.ensures.names; symbols = c.truncate_storage.ensures.stored.kept.names_kept })

-- The statements that contracts see own nothing, so they can be sent to another thread.
use Rattle.scope.proofs.Words.{IsSend, owning_send, the_row, the_type}

pub send : IsSend the_row
send = owning_send the_type tt (λ d. tt) (λ k x w. tt)

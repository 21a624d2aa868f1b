-- `filter::token::lowered` meets its contract. Assumes nothing.
use Rattle.filter.proofs.Lowered.{lowered}
use Rattle.filter.proofs.token.lowered.Goals as goal

pub returns : goal.returns
returns c = λ s e h q. lowered c.args.word s e h q

-- `find::lf_flags` meets its contract. Assumes nothing.
use Rattle.find.proofs.Words.{lf_flags}
use Rattle.find.proofs.lf_flags.Goals as goal

pub returns : goal.returns
returns c = λ s e h q. lf_flags c.args.word s e h q

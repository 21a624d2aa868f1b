-- `message::decode::message_title_and_body` meets its contract. Assumes nothing.
use mathlib.Core.Bool.{true, false}
use mathlib.Core.List.{List}
use mathlib.Core.Path.{◌≡◌}
use Prim.Native.Nat.{ℕ, ◌<◌}
use borrow.Author.Rules.{rules}
use lib.Dec.{ltb}
use lib.ListN.{length}
use lib.Seq.{drop-cons}
use Rattle.rules.specs.Answers.{limit}
use Rattle.rules.specs.Lists.{filled}
use Rattle.rules.specs.Title.{body_start, body}
use Rattle.message.proofs.decode.message_title_and_body.Goals as goal

some_body : (m : List ℕ) → body_start m < length m → filled (body m) ≡ true
some_body m h = rw (drop-cons m (body_start m) 0 h)

pub returns-then-places-message : goal.returns-then-places-message
returns-then-places-message c =
    let m = c.args.message.now in
    let short : ltb limit (length m) ≡ false = search rules in
    let e = c.title_and_body-places.ensures in
    rw (short, some_body m (rw e.1 at c.if-places-message.true), e.0, e.1)

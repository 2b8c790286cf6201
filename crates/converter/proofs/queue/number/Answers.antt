use Rattle.std.proofs.Common.{◌%◌, mod-lt, zero-lt-suc}
use Rattle.std.proofs.lemmas.Nat.{ones-le}
use Rattle.converter.proofs.queue.number.Goals as goal

pub returns-clause-bound : goal.returns-clause-bound
returns-clause-bound c = ones-le 4 (c.args.mask % 16) (mod-lt _ (zero-lt-suc 15))

-- The window's span has exactly its whole buckets.
use Rattle.std.proofs.Common.{rules}
use Rattle.ts_bucket.proofs.WindowLaws.{inscribed_as}
use Rattle.ts_bucket.proofs.windows.inscribe.Goals as goal

pub returns-clause-greatest : goal.returns-clause-greatest
returns-clause-greatest c = inscribed_as c.args.w c.args.lo c.args.hi c.nonempty.result c.bucket.ensures.bounds (search rules)

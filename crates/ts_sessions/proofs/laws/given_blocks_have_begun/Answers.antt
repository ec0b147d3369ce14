use Rattle.ts_sessions.proofs.BegunLaws.{given_blocks_begin}
use Rattle.ts_sessions.proofs.laws.given_blocks_have_begun.Goals as goal

pub returns : goal.returns
returns c = given_blocks_begin

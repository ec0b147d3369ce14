-- The stale buckets are the dirty ones among the buckets below the mark, also with the entries.
use Rattle.std.proofs.Common.{◌≡◌, true, ◌&&◌, ℤ, ◌≤ℤ◌, sym, subst}
use Rattle.std.specs.Option.{ForSome}
use Rattle.ts_bucket.specs.Bucket.{is_bucket, first_of}
use Rattle.ts_bucket.specs.Spans.{in_span}
use Rattle.ts_bucket.specs.WholeSpans.{IsMark, is_below}
use Rattle.mat_log.specs.Logs.{LogValue}
use Rattle.mat_log.specs.Feeding.{is_dirty_with, is_stale_with}
use Rattle.mat_log.proofs.RangeLaws.{same_as, stale_same}
use Rattle.mat_log.proofs.logs.MatLog.stale_with.Goals as goal

pub buckets_below-requires : goal.buckets_below-requires
buckets_below-requires c = subst (λ (log : LogValue). ForSome c.args.mark (IsMark log.width)) (sym c.self.view_is) c.requires.mark

pub returns : goal.returns
returns c =
    let log = c.args.self.now in
    let Exact : LogValue → Type 0 = λ log. (b : ℤ) → is_bucket log.width b ≡ true → first_of log.width ≤ℤ b → in_span c.buckets_below.result b ≡ (in_span c.args.starts b && is_below b c.args.mark) in
    let exact : Exact log = subst Exact c.self.view_is c.buckets_below.ensures.exact in
    record {
      ranges = same_as log.width c.buckets_below.result c.args.starts (is_dirty_with log c.args.entries.now.items) (is_stale_with log c.args.entries.now.items c.args.mark) c.dirty_with.result
          (λ b q. stale_same log.width c.buckets_below.result c.args.starts c.args.mark (is_dirty_with log c.args.entries.now.items) b q (exact b q))
          c.dirty_with.ensures.ranges;
    }

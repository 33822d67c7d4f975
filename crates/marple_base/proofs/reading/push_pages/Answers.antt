-- each page stands at the end of the text after those before it
use Rattle.std.proofs.Common.{arith}
use Rattle.marple_base.proofs.Bytes.{pushed_more}
use Rattle.marple_base.proofs.reading.push_pages.Goals as goal

pub pages-preserved : goal.pages-preserved
pages-preserved c = record {
  within = omega arith;
  pushed = pushed_more c.args.text.now c.pages.text c.push_slice.new.self c.args.block.now c.pages.at c.min-more.result
      c.pages.invariant.pushed c.in_ok-push_slice.ensures.ok;
}

use Rattle.dbc_advice.proofs.Common.{◌≡◌, ◌+◌, length, sym, ◌∙◌, arith}
use Rattle.dbc_advice.specs.Findings.{IsReported}
use Rattle.dbc_advice.proofs.ReportedMore.{is_reported, one_longer, reported_after, unchanged}
use Rattle.dbc_advice.proofs.findings.reported_faults.Goals as goal

pub returns-then-same : goal.returns-then-same
returns-then-same c =
    let t = c.in-Fault.fault in
    let text = c.loop-count.text.items in
    let rest = c.in_ok-rest-in-Fault.rest.items in
    let shown = c.deref-in-Fault.result.now in
    let is : IsReported text t = is_reported text c.deref.result.now c.in_ok-reading.field-0 t c.in-Fault.is
    c.deref.ensures.value c.in_ok-reading.ensures in
    let many : length c.push.new.self.items ≡ c.loop-count.count + 1 =
    one_longer c.loop-count.reported.items c.push.new.self.items t c.loop-count.count
    c.in_ok-push-in-Fault.ensures.items c.loop-count.invariant.many in
    record {
      left = rest;
      reported = reported_after c.args.source.now c.loop-count.reported.items c.push.new.self.items text shown rest t
          c.loop-count.invariant.reported is c.deref-in-Fault.ensures.value c.in_ok-rest-in-Fault.ensures
          c.in_ok-push-in-Fault.ensures.items;
      few = omega (arith, many, c.loop-count-test.true);
      ends = unchanged c.args.source.now c.loop-count.reported.items c.push.new.self.items text shown rest t
          c.loop-count.invariant.reported is c.deref-in-Fault.ensures.value c.in_ok-rest-in-Fault.ensures
          c.in_ok-push-in-Fault.ensures.items (sym c.eq-same.ensures ∙ c.if-same.true);
    }

pub loop-count-preserved : goal.loop-count-preserved
loop-count-preserved c =
    let t = c.in-Fault.fault in
    let text = c.loop-count.text.items in
    let rest = c.in_ok-rest-in-Fault.rest.items in
    let is : IsReported text t = is_reported text c.deref.result.now c.in_ok-reading.field-0 t c.in-Fault.is
    c.deref.ensures.value c.in_ok-reading.ensures in
    record {
      reported = reported_after c.args.source.now c.loop-count.reported.items c.push.new.self.items text
          c.deref-in-Fault.result.now rest t c.loop-count.invariant.reported is c.deref-in-Fault.ensures.value
          c.in_ok-rest-in-Fault.ensures c.in_ok-push-in-Fault.ensures.items;
      many = one_longer c.loop-count.reported.items c.push.new.self.items t c.loop-count.count
          c.in_ok-push-in-Fault.ensures.items c.loop-count.invariant.many;
    }

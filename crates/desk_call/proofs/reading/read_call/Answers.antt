use Rattle.desk_call.proofs.Common.{◌≡◌, ◌∙◌, ◌≤◌, ◌<◌, ◌⊎◌, length, inl, inr, refl, arith, ap, IsAtEnd, Moves}
use Rattle.desk_call.proofs.Common.{reads_to_fault, demand_of, body_size, head_limit, request_limit, size_is_small}
use Rattle.std.proofs.Common.{drop, Err}
use Rattle.std.proofs.KnownBytes.{Keeps-refl}
use Rattle.std.proofs.lemmas.List.{take_rest}
use Rattle.desk_types.specs.declared.fault.ReadFault.TheVariants.{Read}
use Rattle.desk_types.proofs.Gives.{gives_none}
use Rattle.desk_head.specs.Head.{IsHeadAt}
use Rattle.desk_call.specs.Call.{call_of, seen}
use Rattle.desk_call.proofs.Gives.{gives_request}
use Rattle.desk_call.proofs.Whole.{requests, either, not_whole}
use Rattle.desk_call.proofs.reading.read_call.Goals as goal

pub returns-in-Err-read_until-clause-failed : goal.returns-in-Err-read_until-clause-failed
returns-in-Err-read_until-clause-failed g c is_read =
    let left = g.R.Source.left in
    let got = c.read_head.new.got.items in
    let rest = c.read_until.new.got.items in
    let spans = c.in-Ok-Some.spans in
    let head : IsHeadAt got c.read_head.new.headers spans = rw c.in-Ok-Some.field-0-is at c.in-Ok-Some.ensures.head in
    let tail : c.in-Ok.rest.items ≡ drop spans.len got =
    rw (c.deref-2.ensures.value, take_rest got spans.len) at c.in-Ok.ensures.items in
    let fault : c.in-Err-read_until.e ≡ Read = cc is_read in
    let read = c.in-Err-read_until.ensures.failed (ap Err fault) in
    let second : Moves (left c.read_head.new.source) (left c.read_until.new.source) (drop spans.len got) rest =
    rw tail at read.0 in
    let demand : c.demand_at-demand.result ≡ demand_of head.1.0 =
    c.demand_at-demand.ensures head.1.0 (rw c.deref.ensures.value head.1.2) in
    let short : length rest < body_size (demand_of head.1.0) =
    rw (← demand) (omega (arith, read.1, c.body_size.ensures, c.read_until.new.got.ok.0)) in
    not_whole _ _ _ got (drop spans.len got) rest head.1.0 c.in-Ok-Some.ensures.moves second head.1.1 short

pub returns-in-Ok-call_read-clause-ok : goal.returns-in-Ok-call_read-clause-ok
returns-in-Ok-call_read-clause-ok g c =
    let left = g.R.Source.left in
    let got = c.read_head.new.got.items in
    let rest = c.read_until.new.got.items in
    let spans = c.in-Ok-Some.spans in
    let head : IsHeadAt got c.read_head.new.headers spans = rw c.in-Ok-Some.field-0-is at c.in-Ok-Some.ensures.head in
    let tail : c.in-Ok.rest.items ≡ drop spans.len got =
    rw (c.deref-2.ensures.value, take_rest got spans.len) at c.in-Ok.ensures.items in
    let second : Moves (left c.read_head.new.source) (left c.read_until.new.source) (drop spans.len got) rest =
    rw tail at c.in-Ok-read_until.ensures.moves in
    let demand : c.demand_at-demand.result ≡ demand_of head.1.0 =
    c.demand_at-demand.ensures head.1.0 (rw c.deref.ensures.value head.1.2) in
    let end : (body_size (demand_of head.1.0) ≤ length rest) ⊎ IsAtEnd (left c.read_until.new.source) =
    elim (either c.read_until.result c.in-Ok-read_until.field-0 c.in-Ok-read_until.is
    c.read_until.ensures.whole c.read_until.ensures.end) [
      | inl a ↦ inl (rw (← demand) (omega (arith, a, c.body_size.ensures, c.read_until.new.got.ok.0)))
      | inr e ↦ inr e.0
    ] in
    let is : seen c.in-Ok-call_read.call ≡ call_of head.1.0 rest =
    rw c.deref-4.ensures.value at
    (c.in-Ok-call_read.ensures head.1.0 (rw c.deref-3.ensures.value head.1.2) demand) in
    requests (left c.args.source.now) _ _ got (drop spans.len got) rest head.1.0 _
    c.in-Ok-Some.ensures.moves second head.1.1 is end

pub returns-in-Err-clause-reads : goal.returns-in-Err-clause-reads
returns-in-Err-clause-reads g c =
    reads_to_fault _ _ g.R.Source _ _ _ 0 _ request_limit c.in-Err.e (gives_none _ _ 0 (Keeps-refl _)) refl
    c.in-Err.ensures.reads (omega arith)

pub returns-in-Err-read_until-clause-reads : goal.returns-in-Err-read_until-clause-reads
returns-in-Err-read_until-clause-reads g c =
    let got = c.read_head.new.got.items in
    let head : IsHeadAt got c.read_head.new.headers c.in-Ok-Some.spans =
    rw c.in-Ok-Some.field-0-is at c.in-Ok-Some.ensures.head in
    let demand : c.demand_at-demand.result ≡ demand_of head.1.0 =
    c.demand_at-demand.ensures head.1.0 (rw c.deref.ensures.value head.1.2) in
    reads_to_fault _ _ g.R.Source _ _ _ head_limit _ request_limit c.in-Err-read_until.e
    c.in-Ok-Some.ensures.reads.most c.in-Ok-Some.ensures.reads.count c.in-Err-read_until.ensures.reads
    (omega (arith, size_is_small head.1.0, c.body_size.ensures, ap body_size demand))

pub returns-in-Ok-call_read-clause-reads : goal.returns-in-Ok-call_read-clause-reads
returns-in-Ok-call_read-clause-reads g c =
    let got = c.read_head.new.got.items in
    let head : IsHeadAt got c.read_head.new.headers c.in-Ok-Some.spans =
    rw c.in-Ok-Some.field-0-is at c.in-Ok-Some.ensures.head in
    let demand = c.demand_at-demand.ensures head.1.0 (rw c.deref.ensures.value head.1.2) in
    record {
      most = gives_request _ _ _ c.demand_at-demand.result head.1.0 _ _ c.in-Ok-Some.ensures.reads.most
          c.in-Ok-read_until.ensures.reads.most c.body_size.ensures demand;
      count = c.in-Ok-read_until.ensures.reads.count ∙ c.in-Ok-Some.ensures.reads.count;
    }

pub returns-in-Err-call_read-clause-reads : goal.returns-in-Err-call_read-clause-reads
returns-in-Err-call_read-clause-reads g c =
    let got = c.read_head.new.got.items in
    let head : IsHeadAt got c.read_head.new.headers c.in-Ok-Some.spans =
    rw c.in-Ok-Some.field-0-is at c.in-Ok-Some.ensures.head in
    let demand = c.demand_at-demand.ensures head.1.0 (rw c.deref.ensures.value head.1.2) in
    record {
      most = gives_request _ _ _ c.demand_at-demand.result head.1.0 _ _ c.in-Ok-Some.ensures.reads.most
          c.in-Ok-read_until.ensures.reads.most c.body_size.ensures demand;
      count = c.in-Ok-read_until.ensures.reads.count ∙ c.in-Ok-Some.ensures.reads.count;
    }

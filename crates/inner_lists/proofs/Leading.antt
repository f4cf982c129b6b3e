-- Claims from before some steps, by claims from after them.
use Rattle.std.proofs.Common.{◌≡◌, ◌∙◌, ℕ, ◌+◌, Some, refl, subst, arith}
use Rattle.bit_space.specs.SpaceView.{SpaceView}
use Rattle.pickle_meaning.specs.Clauses.{FaultAt}
use Rattle.pickle_map.specs.declared.mapper.stop.Stop.{Stop}
use Rattle.pickle_map.specs.declared.mapper.stop.Stop.TheVariants.{Fault, Limit, Device, Memory}
use Rattle.pickle_map.specs.declared.mapper.state.Mapper.{Mapper}
use Rattle.inner_lists.specs.Calls.{Claim, Comes, Frame, Leads, StopsAt}
use Rattle.list_laws.specs.Meanings.{SpaceBytes, bytes_in, meaning_in}

pub same_bytes : (space space' : SpaceView) → space'.len ≡ space.len → space'.bytes ≡ space.bytes →
    bytes_in space' ≡ bytes_in space
same_bytes space space' len bytes = rw (len, bytes) refl

-- what stays in two calls, one after the other
pub frame_both : {W : Type 0} {a b c : SpaceView} {old mid new : Mapper W} → Frame a b old mid → Frame b c mid new →
    Frame a c old new
frame_both first then =
    let f = first.room in
    let t = then.room in
    let failures = first.left.failures in
    let more = then.left.failures in
    let nodes = f.nodes in let nodes' = t.nodes in
    let families = f.families in let families' = t.families in
    let links = f.links in let links' = t.links in
    let pending = f.pending in let pending' = t.pending in
    let texts = f.texts in let texts' = t.texts in
    let bytes = f.bytes in let bytes' = t.bytes in
    record {
      lent = record {
        nodes = then.lent.nodes ∙ first.lent.nodes;
        packings = then.lent.packings ∙ first.lent.packings;
        meter = then.lent.meter ∙ first.lent.meter;
        store = then.lent.store ∙ first.lent.store;
      };
      left = record {
        limit = then.left.limit ∙ first.left.limit;
        len = then.left.len ∙ first.left.len;
        bytes = then.left.bytes ∙ first.left.bytes;
        failures = omega (arith, failures, more);
      };
      room = record {
        room = t.room ∙ f.room;
        nodes = omega (arith, nodes, nodes');
        families = omega (arith, families, families');
        links = omega (arith, links, links');
        pending = omega (arith, pending, pending');
        texts = omega (arith, texts, texts');
        bytes = omega (arith, bytes, bytes');
      };
    }

module _ {R : Type 0} {space : SpaceBytes} where
  pub leads_both : {inner middle outer : Claim R} {before mid after : ℕ} → Leads space middle outer before mid →
      Leads space inner middle mid after → Leads space inner outer before after
  leads_both {outer} first then = record {
    steps = first.steps + then.steps;
    taken = let a = first.taken in let b = then.taken in omega (arith, a, b);
    leads = λ known are r k h.
        let same : first.steps + (then.steps + k) ≡ first.steps + then.steps + k = omega arith in
        subst (λ (n : ℕ). outer (meaning_in space known) r n) same
        (first.leads known are r (then.steps + k) (then.leads known are r k h));
  }

  pub comes_later : {inner outer : Claim R} {before mid after : ℕ} {r : R} → Leads space inner outer before mid →
      Comes space inner mid after r → Comes space outer before after r
  comes_later {r} first then = record {
    steps = first.steps + then.steps;
    taken = let a = first.taken in let b = then.taken in omega (arith, a, b);
    holds = λ known are. first.leads known are r then.steps (then.holds known are);
  }

  pub stops_later : {inner outer : Claim R} (Device Device' : Type 0) (fault : FaultAt → R)
      (limit limit' : ℕ) {before mid : ℕ} (after : ℕ) (stop : Stop) → (Device → Device') → limit' ≡ limit
      → Leads space inner outer before mid → StopsAt space Device inner fault limit mid after stop
      → StopsAt space Device' outer fault limit' before after stop
  stops_later D D' fault limit limit' after (Fault kind place) device same first then = comes_later first then
  stops_later D D' fault limit limit' after Limit device same first then = record {
    all = let a = then.all in omega (arith, a, same);
    exceeds = λ bytes known.
        let x = then.exceeds bytes known in
        let taken = first.taken in
        let more = x.more in
        record {
          outcome = x.outcome;
          steps = first.steps + x.steps;
          holds = first.leads (Some bytes) known x.outcome x.steps x.holds;
          more = omega (arith, taken, more, same);
        };
  }
  stops_later D D' fault limit limit' after Device device same first then = device then
  stops_later D D' fault limit limit' after Memory device same first then = tt

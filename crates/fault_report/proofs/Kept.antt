-- What is stored for a fault: the part in which it arises, or why that isn't found.
use Rattle.std.proofs.Common.{◌≡◌, ℕ, ◌≤◌, ◌<◌, List, Option, Some, None, Err, refl, ◌∙◌, sym, arith}
use Rattle.bit_space.specs.declared.order.Order.{Order}
use Rattle.bit_space.specs.SpaceView.{SpaceView, HasRisen}
use Rattle.pickle_types.specs.Types.{PokeType}
use Rattle.pickle_meaning.specs.declared.faults.MapFault.{MapFault}
use Rattle.pickle_meaning.specs.declared.faults.MapFaultKind.{MapFaultKind}
use Rattle.pickle_meaning.specs.declared.faults.MapFaultKind.TheVariants as faults
use Rattle.pickle_meaning.specs.Answer.{Answer, in_time, too_long}
use Rattle.pickle_meaning.specs.Means.{Means}
use Rattle.pickle_meaning.specs.Values.{no_values}
use Rattle.pickle_map.specs.Mapped.{EndsRun, FaultMeans}
use Rattle.fault_parts.specs.Somehow.{Somehow}
use Rattle.fault_location.specs.declared.site.Ended.{Ended}
use Rattle.fault_location.specs.declared.site.Ended.TheVariants as ended
use Rattle.fault_location.specs.Searched.{Ends, search_of}
use Rattle.fault_location.specs.Ways.{OnBits, fault_of}
use Rattle.command_line.specs.declared.ask.Ask.{Ask}
use Rattle.fault_report.specs.declared.cause.Fault.{Fault}
use Rattle.fault_report.specs.Found.{IsKept}
use Rattle.fault_report.specs.Meant.{HasFault, IsFaultAt, arises_there, ended_there, search_limit, CutsSearch, takes_more, failed_read, ended_run, cut}

-- ---- a fault that ends no run is meant by the type

answered : {bits : List ℕ} {ty : PokeType} {order : Order} {s limit : ℕ} {kind : MapFaultKind} {at k j : ℕ}
    → (EndsRun kind → ⊥) → Answer bits ty order s limit (Err (kind, at)) k j
    → Somehow (Means bits ty order no_values s (Err (kind, at)))
answered never (in_time {k = k} {j = j} m le) = record { steps = k; made = j; holds = m }
answered never (too_long m lt le) = absurd (never tt)

module _ {bits : List ℕ} {ty : PokeType} {order : Order} {s at : ℕ} (limit k j : ℕ) where
  type_means : (kind : MapFaultKind) → (EndsRun kind → ⊥) → FaultMeans bits ty order s limit kind at k j →
      Somehow (Means bits ty order no_values s (Err (kind, at)))
  type_means faults.End never m = answered never m
  type_means faults.Constraint never m = answered never m
  type_means faults.Bounds never m = answered never m
  type_means faults.NoBits never m = answered never m
  type_means faults.Zero never m = answered never m
  type_means faults.Overflow never m = answered never m
  type_means faults.Absent never m = answered never m
  type_means faults.Index never m = answered never m
  type_means faults.Limit never m = absurd (never tt)
  type_means faults.Device never m = absurd (never tt)
  type_means faults.Memory never m = absurd (never tt)

module _ (space space' : SpaceView) (type : PokeType) (ask : Ask) where
  pub fault_means : (fault : MapFault) → (EndsRun fault.kind → ⊥) → HasFault space type ask fault
      → OnBits space (λ bits. Somehow (Means bits type ask.order no_values ask.start (Err (fault_of fault))))
  fault_means fault never has = λ bytes known.
      let meant = has bytes known in type_means _ _ _ fault.kind never meant.means

  -- why a search ended, within its limit of steps
  pub cut_off : (limit steps : ℕ) (e : Ended) → limit ≡ search_limit ask → steps ≡ 0 → (e ≡ ended.Memory → ⊥)
      → OnBits space (λ bits.
      Ends (HasRisen space.failures space'.failures) limit steps (search_of bits type ask.order no_values ask.start) e)
      → OnBits space (CutsSearch space space' type ask)
  cut_off limit steps ended.Limit most none never h =
      λ bytes known. takes_more (omega (arith, most, none, h bytes known))
  cut_off limit steps ended.Device most none never h = λ bytes known. failed_read (h bytes known)
  cut_off limit steps ended.Memory most none never h = absurd (never refl)

  -- a fault that ends a run is stored with any part, or with none
  pub kept_of_run : (fault : MapFault) → EndsRun fault.kind → (part : Option Fault) →
      IsKept space space' type ask fault part
  kept_of_run fault ends None = ended_run ends
  kept_of_run fault ends (Some part) = ended_there ends

rises_before : (a b c m : ℕ) → a ≤ b → b ≤ c → (b < m → b < c) → a < m → a < c
rises_before a b c m ab bc h am = grind arith

-- ---- the space after calls that leave its bytes

module _ (space later : SpaceView) (same : later.bytes ≡ space.bytes) where
  pub later_fault : (type : PokeType) (ask : Ask) (fault : MapFault) → HasFault space type ask fault →
      HasFault later type ask fault
  later_fault type ask fault has = λ bytes known. has bytes (sym same ∙ known)

  earlier_place : (type : PokeType) (ask : Ask) (fault : MapFault) (places : List ℕ) →
      IsFaultAt later type ask fault places → IsFaultAt space type ask fault places
  earlier_place type ask fault places (arises_there on) = arises_there (λ bytes known. on bytes (same ∙ known))
  earlier_place type ask fault places (ended_there ends) = ended_there ends

  module _ (last : SpaceView) (rises : space.failures ≤ later.failures) (lasts : later.failures ≤ last.failures) where
    pub earlier_rise : HasRisen later.failures last.failures → HasRisen space.failures last.failures
    earlier_rise risen = rises_before _ _ _ _ rises lasts risen

    earlier_cut : (type : PokeType) (ask : Ask) (bits : List ℕ) → CutsSearch later last type ask bits →
        CutsSearch space last type ask bits
    earlier_cut type ask bits (takes_more lt) = takes_more lt
    earlier_cut type ask bits (failed_read risen) = failed_read (earlier_rise risen)

    -- what is stored for a fault by a call that came later
    pub earlier_kept : (type : PokeType) (ask : Ask) (fault : MapFault) (part : Option Fault) →
        IsKept later last type ask fault part → IsKept space last type ask fault part
    earlier_kept type ask fault (Some part) there = earlier_place type ask fault _ there
    earlier_kept type ask fault None (ended_run ends) = ended_run ends
    earlier_kept type ask fault None (cut on) = cut (λ bytes known. earlier_cut type ask _ (on bytes (same ∙ known)))

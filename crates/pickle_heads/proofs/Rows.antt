-- What heads say, worked out by hand.
use Rattle.std.proofs.Common.{◌≡◌, [], ◌∷◌, ◌++◌, List, ℕ, true, false, refl}
use Rattle.std.specs.Prelude.{codes, Some, None}
use Rattle.bit_space.specs.declared.order.Order.TheVariants.{Big, Little}
use Rattle.pickle_heads.specs.declared.fault.HeadFault.TheVariants as fault
use Rattle.pickle_heads.specs.declared.identified.Orders.TheVariants.{OfOptions, Both}
use Rattle.pickle_heads.specs.Options.{given_in}
use Rattle.pickle_heads.specs.Identified.{identified_in, by_type}
use Rattle.pickle_heads.specs.Inside.{inside_in, no_type}
use Rattle.pickle_heads.specs.Records.{is_path}
use Rattle.pickle_heads.specs.Heads.{sentence_of, main_of, options_of, identified_of, form_of, records_of, fault_of, orders_for}

abbrev line : List ℕ → List ℕ
line text = text ++ (10 ∷ [])

abbrev gpt : List ℕ
gpt = line (codes "// gpt: A disk: two tables.") ++ line (codes "// main: Disk, options: --endian little")
    ++ line (codes "// Identified by: Signature") ++ line (codes "// Form of: mbr") ++ line (codes "//")

gpt_sentence : sentence_of (codes "gpt") gpt ≡ codes "A disk: two tables."
gpt_sentence = refl

of_another_name : sentence_of (codes "mbr") gpt ≡ []
of_another_name = refl

gpt_main : main_of gpt ≡ Some (codes "Disk")
gpt_main = refl

gpt_options : options_of gpt ≡ codes "--endian little"
gpt_options = refl

gpt_identified : identified_of gpt ≡ Some (by_type (codes "Signature") OfOptions)
gpt_identified = refl

gpt_form : form_of gpt ≡ Some (codes "mbr")
gpt_form = refl

gpt_records : records_of gpt ≡ None
gpt_records = refl

gpt_fault : fault_of gpt ≡ None
gpt_fault = refl

gpt_orders : orders_for (identified_of gpt) (Some Little) ≡ Little ∷ []
gpt_orders = refl

without_options : orders_for (Some (by_type [] OfOptions)) None ≡ Big ∷ []
without_options = refl

both_orders : identified_in (codes "Signature, little, big") ≡ Some (by_type (codes "Signature") (Both Little))
both_orders = refl

an_order_twice : identified_in (codes "Signature, big, big") ≡ None
an_order_twice = refl

by_nothing_in_order : identified_in (codes "nothing, big") ≡ None
by_nothing_in_order = refl

without_a_name : identified_in [] ≡ None
without_a_name = refl

big_and_whole : given_in (codes "--whole --endian big") ≡ Some (record { order = Some Big; whole = true })
big_and_whole = refl

whole_twice : given_in (codes "--whole --whole") ≡ None
whole_twice = refl

another_option : given_in (codes "--chars text") ≡ None
another_option = refl

a_reason : inside_in (codes "nothing, because no field says it.") ≡ Some (no_type (codes "no field says it"))
a_reason = refl

without_a_reason : inside_in (codes "nothing") ≡ None
without_a_reason = refl

a_long_path : is_path (codes ".a.b_1") ≡ true
a_long_path = refl

an_empty_name : is_path (codes ".a..b") ≡ false
an_empty_name = refl

an_ended_path : is_path (codes ".a.") ≡ false
an_ended_path = refl

a_number_in_a_path : is_path (codes ".1") ≡ false
a_number_in_a_path = refl

no_head : fault_of (codes "type T = int;") ≡ None
no_head = refl

a_line_without_its_name : fault_of (line [] ++ line [] ++ line (codes "// Identified by: ")) ≡ Some fault.Identified
a_line_without_its_name = refl

an_early_line : fault_of (line [] ++ line [] ++ line (codes "// Inside: A") ++ line (codes "// Form of: b"))
    ≡ Some fault.Order
an_early_line = refl

two_types : fault_of (line [] ++ line (codes "// main: A B")) ≡ Some fault.Main
two_types = refl

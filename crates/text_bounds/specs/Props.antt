-- The facts of a sizer have one proof at most.
use Rattle.std.specs.Prelude.{ℕ, List, Option, None, Some}
use Rattle.std.specs.Coded.{le_prop, Coded-set, coded_ℕ}
use Rattle.pickle_types.specs.declared.node.Node.{Node}
use Rattle.pickle_types.specs.Types.{PokeType}
use Rattle.pickle_types.specs.Bounds.{IsBound}
use Rattle.pickle_types.specs.Holds.{HoldsWidth}
use Rattle.text_bounds.specs.declared.form.Form.{Form}
use Rattle.text_bounds.specs.declared.size.TextSize.{TextSize}
use Rattle.text_bounds.specs.declared.fields.NodeSize.{NodeSize}
use Rattle.text_bounds.specs.TextRoom.{Size}
use Rattle.text_bounds.specs.TextHeld.{HoldsSize, AreSizes, AreKnownSizes}

HoldsWidth-prop : (least : Option ℕ) (w : ℕ) → IsProp (HoldsWidth least w)
HoldsWidth-prop None w = le_prop
HoldsWidth-prop (Some n) w = Coded-set coded_ℕ _ _

IsBound-prop : (most : Option ℕ) (n : ℕ) → IsProp (IsBound most n)
IsBound-prop None n = le_prop
IsBound-prop (Some x) n = Coded-set coded_ℕ _ _

HoldsSize-prop : (b : TextSize) (size : Size) → IsProp (HoldsSize b size)
HoldsSize-prop b size x y = λ i. record {
  text = IsBound-prop b.text size.text x.text y.text i;
  lines = IsBound-prop b.lines size.lines x.lines y.lines i;
}

AreSizes-prop : (b : NodeSize) (form : Form) (type : PokeType) (m : ℕ) → IsProp (AreSizes b form type m)
AreSizes-prop b form type m x y = λ i. record {
  least = HoldsWidth-prop b.least _ x.least y.least i;
  size = HoldsSize-prop b.size _ x.size y.size i;
}

pub AreKnownSizes-prop : {nodes : List Node} {roots : List ℕ} {known : List NodeSize} {form : Form} {m : ℕ} →
    IsProp (AreKnownSizes nodes roots known form m)
AreKnownSizes-prop {form = form} {m = m} x y = λ i. record {
  each = λ k root b at here. AreSizes-prop b form _ m (x.each k root b at here) (y.each k root b at here) i;
}

-- Values outside of entries, as the tables of line programs have them: they are by their forms alone (DWARF 5, 6.2.4.1).
use Rattle.std.specs.Prelude.{ℕ, Bool, None, Ok}
use Rattle.dw_base.specs.declared.common.Encoding.{Encoding}
use Rattle.dw_read.specs.Reading.{Read}
use Rattle.dw_read.specs.Reasons.{◌=>>◌}
use Rattle.dw_read.specs.FormReasons.{form_read}
use Rattle.dw_read.specs.Values.{Value, formed_value}

-- the value of a form, which no name and no declaration goes along with
unfoldable pub value_read : Bool → Encoding → ℕ → Read Value
value_read big e form bytes = form_read big e form bytes =>> λ x. Ok (formed_value x.0.0 None x.0.1, x.1)

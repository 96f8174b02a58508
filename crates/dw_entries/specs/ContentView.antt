-- What the code keeps as a value's content.
use Rattle.std.specs.Prelude.{ℕ, ◌^◌, Option, Some, None}
use Rattle.dw_entries.specs.Content as of
use Rattle.dw_entries.specs.declared.content.Content.{Content}
use Rattle.dw_entries.specs.declared.content.Content.TheVariants as held

-- a number of 64 bits, or the one past them
abbrev pub number_or_past : Option ℕ → ℕ
number_or_past None = 2 ^ 64
number_or_past (Some n) = n

abbrev pub content_in : Content → of.Content
content_in held.Nothing = of.Nothing
content_in (held.Plain n w) = of.Plain w n
content_in (held.Wide n) = of.Wide n
content_in (held.Leb n) = of.Leb n
content_in (held.SignedLeb z) = of.SignedLeb z
content_in (held.Block xs) = of.Block xs.now
content_in (held.Expression x) = of.Expression x.now
content_in (held.Closed s) = of.Closed s.now
content_in (held.Target a) = of.Target a
content_in (held.Offset n section) = of.Offset section n
content_in (held.InTable section i) = of.InTable section i
content_in (held.TableIndex section i) = of.TableIndex section i
content_in (held.OwnPart section) = of.OwnPart section
content_in (held.File n) = of.File (number_or_past n)
content_in (held.EntryPlace i) = of.EntryPlace i.0
content_in (held.InfoPlace r) = of.InfoPlace r

-- The items of a list as its writer tells them, in the words of its reader.
use Rattle.std.specs.Prelude.{Bool, true, false}
use Rattle.dw_lists.specs.Items as written
use Rattle.dw_sources.specs.RawLists as raw

-- the addresses of an item in version 5 or before it: only a pair has two names, and before version 5 it may be of addresses
abbrev pub raw_span : Bool → written.Span → raw.Span
raw_span five (written.Base n) = raw.BaseAddress n
raw_span true (written.Pair m n) = raw.OffsetPair m n
raw_span false (written.Pair m n) = raw.AddressOrOffsetPair m n
raw_span five (written.StartEnd m n) = raw.StartEnd m n
raw_span five (written.StartLength m n) = raw.StartLength m n
raw_span five written.Default = raw.DefaultLocation
raw_span five (written.BaseIndex n) = raw.BaseAddressx n
raw_span five (written.IndexEnd m n) = raw.StartxEndx m n
raw_span five (written.IndexLength m n) = raw.StartxLength m n

-- an item of a range list, which has no expression
abbrev pub raw_range : Bool → written.Item → raw.Span
raw_range five x = raw_span five x.span

-- an item of a location list, with the same bytes of an expression
abbrev pub raw_location : Bool → written.Item → raw.Item
raw_location five x = record { span = raw_span five x.span; expression = x.expression }

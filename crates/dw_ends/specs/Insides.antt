-- What stands behind the sources and sinks.
use Rattle.dw_ends.specs.declared.source.FailingSource.{FailingSource}
use Rattle.dw_ends.specs.declared.source.SliceSource.{SliceSource}
use Rattle.dw_ends.specs.declared.source.StdinSource.{StdinSource}
use Rattle.dw_ends.specs.declared.sink.FailingSink.{FailingSink}
use Rattle.dw_ends.specs.declared.sink.StdoutSink.{StdoutSink}
use Rattle.dw_ends.specs.declared.sink.VecSink.{VecSink}
use Rattle.std.specs.Prelude.{Some, None}
use Rattle.dw_ends.specs.Ends.{Input, Intake}
use Rattle.dw_base.specs.Faults.{Plan}

-- what a slice's source has left: it tells all of it, and never fails
abbrev pub slice_input : SliceSource → Input
slice_input source = record { left = Some source.rest.now; faults = 0 }

-- what a failing source has left: it tells all of it
abbrev pub source_input : FailingSource → Input
source_input source = record { left = Some source.rest.now; faults = source.plan.faults }

-- which reads are to fail
abbrev pub source_plan : FailingSource → Plan
source_plan source = source.plan

-- what a sink in memory has taken: it tells all of it, and counts no fault
abbrev pub vec_intake : VecSink → Intake
vec_intake sink = record { taken = Some sink.bytes.items; faults = 0 }

-- what a failing sink has taken: it tells all of it
abbrev pub sink_intake : FailingSink → Intake
sink_intake sink = record { taken = Some sink.sink.bytes.items; faults = sink.plan.faults }

-- which writes are to fail
abbrev pub sink_plan : FailingSink → Plan
sink_plan sink = sink.plan

-- what a reader has left is not told
abbrev pub reader_input : {R : Type 0} → StdinSource R → Input
reader_input source = record { left = None; faults = source.faults }

-- the reader that a source reads
abbrev pub reader_of : {R : Type 0} → StdinSource R → R
reader_of source = source.reader

-- what a writer has taken is not told
abbrev pub writer_intake : {W : Type 0} → StdoutSink W → Intake
writer_intake sink = record { taken = None; faults = sink.faults }

-- the writer that a sink writes to
abbrev pub writer_of : {W : Type 0} → StdoutSink W → W
writer_of sink = sink.writer

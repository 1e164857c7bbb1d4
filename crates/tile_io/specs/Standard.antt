-- What a source and a sink of std stand over.
use Rattle.tile_io.specs.declared.standard.StdSource.{StdSource}
use Rattle.tile_io.specs.declared.standard.StdSink.{StdSink}

abbrev pub reader_of : {R : Type 0} → StdSource R → R
reader_of source = source.inner

abbrev pub writer_of : {W : Type 0} → StdSink W → W
writer_of sink = sink.inner

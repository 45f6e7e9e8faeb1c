mod ChunkLemmas

mod ChunkLines
